use Rattle.state_marks.proofs.Marks.{saving_from, saving_next, saving_last}
use Rattle.state_marks.proofs.save_conflicts.Goals as goal

pub loop-i-init : goal.loop-i-init
loop-i-init c = search saving_from

pub loop-i-preserved : goal.loop-i-preserved
loop-i-preserved c = search saving_next

pub returns : goal.returns
returns c = search saving_last
