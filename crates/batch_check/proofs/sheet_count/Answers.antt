use borrow.Author.Rules.{rules}
use Rattle.rules.specs.Batch.{sheet_count}
use Rattle.batch_check.proofs.sheet_count.Goals as goal

pub returns : goal.returns
unfolding sheet_count
returns c = search rules
