-- By the position. Assumes nothing.
use Rattle.eval_params.proofs.Laws.{wrong_tells, right_tells}
use Rattle.eval_params.proofs.placed.Goals as goal

pub returns-in-Some : goal.returns-in-Some
returns-in-Some c = wrong_tells _ _ _ _ _ c.wrong_position.ensures _ c.in-Some.is _ c.refused.ensures

pub returns-in-None : goal.returns-in-None
returns-in-None c = right_tells _ _ _ _ _ c.wrong_position.ensures c.in-None.is _ c.parsed.ensures
