use Rattle.state_marks.proofs.Marks.{where_used, where_fails, where_hit}
use Rattle.state_marks.proofs.first_where.Goals as goal
use Rattle.state_marks.proofs.first_where.Goals.{else-is_present-via-then-is_present+else-test, else-is_present-via-else-is_present}

pub returns-then-test : goal.returns-then-test
returns-then-test g c = search where_hit

pub loop-i-preserved : goal.loop-i-preserved
loop-i-preserved g c = elim c.else-is_present.branch [
  | else-is_present-via-then-is_present+else-test w ↦ search where_fails
  | else-is_present-via-else-is_present w ↦ search where_used
]
