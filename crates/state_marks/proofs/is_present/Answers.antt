-- The code is the definition. Assumes nothing.
use Rattle.state_marks.proofs.Mark.{present_is}
use Rattle.state_marks.proofs.is_present.Goals as goal

pub returns : goal.returns
returns c = search present_is
