use Rattle.state_marks.proofs.Marks.{counting_first, counting_more, counting_next, counting_last}
use Rattle.state_marks.proofs.count_present.Goals.{then-is_present, else-is_present}
use Rattle.state_marks.proofs.count_present.Goals as goal

pub loop-i-init : goal.loop-i-init
loop-i-init c = search counting_first

pub loop-i-preserved : goal.loop-i-preserved
loop-i-preserved c = elim c.if-is_present.branch [ then-is_present w ↦ search counting_more | else-is_present w ↦ search counting_next ]

pub returns : goal.returns
returns c = search counting_last
