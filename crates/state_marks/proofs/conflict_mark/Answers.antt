-- A law for each way out. Assumes nothing.
use Rattle.state_marks.proofs.Marks.{conflict_used, conflict_new, conflict_none}
use Rattle.state_marks.proofs.conflict_mark.Goals.{else-is_present-via-then-is_present+else-is_parsed, else-is_present-via-else-is_present}
use Rattle.state_marks.proofs.conflict_mark.Goals as goal

pub returns-then-is_parsed : goal.returns-then-is_parsed
returns-then-is_parsed c = search conflict_new

pub returns : goal.returns
returns c = elim c.else-is_present.branch [
  | else-is_present-via-then-is_present+else-is_parsed w ↦ search conflict_none
  | else-is_present-via-else-is_present w ↦ search conflict_used
]
