use Rattle.state_value.proofs.Loops.{spanning_first, spanning_next, spanning_used, spanning_last}
use Rattle.state_value.proofs.span_end.Goals as goal

pub loop-i-init : goal.loop-i-init
loop-i-init c = search spanning_first

pub returns-then-is_parsed : goal.returns-then-is_parsed
returns-then-is_parsed c = search spanning_used

pub loop-i-preserved : goal.loop-i-preserved
loop-i-preserved c = search spanning_next

pub returns : goal.returns
returns c = search spanning_last
