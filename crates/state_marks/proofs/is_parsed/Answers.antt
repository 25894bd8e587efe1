-- The code is the definition. Assumes nothing.
use Rattle.state_marks.proofs.Mark.{parsed_is}
use Rattle.state_marks.proofs.is_parsed.Goals as goal

pub returns : goal.returns
returns c = parsed_is c.args.mark
