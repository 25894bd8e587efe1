-- By word 256 of the table. Assumes nothing.
use Rattle.eval_params.proofs.is_missing.Goals as goal

pub returns : goal.returns
returns c = c.is_absent.ensures
