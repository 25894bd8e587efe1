-- Assumes nothing.
use Rattle.form_join.proofs.WrittenLaws.{counts_put}
use Rattle.form_join.proofs.write_counts.Goals as goal

pub returns : goal.returns
returns c = search counts_put
