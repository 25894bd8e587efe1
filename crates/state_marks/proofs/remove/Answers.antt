-- A place outside the scope, a used one, and one that becomes used: a law each. Assumes nothing.
use Rattle.state_marks.proofs.Laws.{below_scope, above_scope, used_before_lem, some_left, used_now}
use Rattle.state_marks.proofs.remove.Goals.{then-i-p-via-then-i-p, then-i-p-via-else-i-p+then-p-i, then-i-p-via-else-i-p+else-p-i+then-is_parsed}
use Rattle.state_marks.proofs.remove.Goals as goal

pub returns-then-i-p : goal.returns-then-i-p
returns-then-i-p c = elim c.then-i-p.branch [
  | then-i-p-via-then-i-p w ↦ search below_scope
  | then-i-p-via-else-i-p+then-p-i w ↦ search above_scope
  | then-i-p-via-else-i-p+else-p-i+then-is_parsed w ↦ search used_before_lem
]

pub overflow_sub-result : goal.overflow_sub-result
overflow_sub-result c = search some_left

pub returns : goal.returns
returns c = search used_now
