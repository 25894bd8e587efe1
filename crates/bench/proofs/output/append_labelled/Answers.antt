-- The label, and the number behind it. Assumes nothing.
use borrow.Author.Rules.{rules}
use Rattle.bench.proofs.Appending.{labelled}
use Rattle.bench.proofs.output.append_labelled.Goals as goal

pub returns : goal.returns
returns c = labelled _ _ _ _ _ (search rules) c.append-end.ensures _ _ _ c.append_number.ensures
