-- The number that the run told. Assumes nothing.
use Rattle.eval_missing.proofs.Entries.{node_missing}
use Rattle.eval_missing.proofs.ends_missing.Goals as goal

pub returns : goal.returns
returns c = λ t is g i. node_missing (c.run_node-ran.ensures t g) is i
