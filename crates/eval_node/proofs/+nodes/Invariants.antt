use Prim.Native.Nat.{max, ◌+◌, ◌*◌}
use mathlib.Core.Bool.{true}
use mathlib.Core.Path.{◌≡◌}
use Rattle.eval_node.proofs.Turns.{Turning, left_of}
use Rattle.eval_node.proofs.+nodes.Given as goal

-- The members' measures: the node, times five, and a rank among the functions of one node.

abbrev pub decreases-choice : goal.decreases-choice
decreases-choice l = max l.left l.right * 5 + 3

abbrev pub decreases-choice_copied : goal.decreases-choice_copied
decreases-choice_copied l = max l.left l.right * 5 + 2

abbrev pub decreases-count : goal.decreases-count
decreases-count l = l.child * 5 + 5

abbrev pub decreases-fallback : goal.decreases-fallback
decreases-fallback l = l.child * 5 + 3

abbrev pub decreases-fallback_copied : goal.decreases-fallback_copied
decreases-fallback_copied l = l.child * 5 + 2

abbrev pub decreases-guard : goal.decreases-guard
decreases-guard l = l.x.p * 5 + 2

abbrev pub decreases-last : goal.decreases-last
decreases-last l = l.child * 5 + 5

abbrev pub decreases-leaf : goal.decreases-leaf
decreases-leaf l = l.over.leaf * 5 + 2

abbrev pub decreases-optional : goal.decreases-optional
decreases-optional l = l.child * 5 + 2

abbrev pub decreases-run_node : goal.decreases-run_node
decreases-run_node l = l.node * 5 + 1

abbrev pub decreases-run_repeat : goal.decreases-run_repeat
decreases-run_repeat l = l.how.child * 5 + 4

abbrev pub decreases-turn : goal.decreases-turn
decreases-turn l = l.over.child * 5 + 3

-- run_repeat

abbrev pub invariant-run_repeat-loop-out : goal.invariant-run_repeat-loop-out
invariant-run_repeat-loop-out l =
    Turning l.line.form.now l.line.known.now l.line.sheet.now l.line.items.now l.initial.marks l.how l.initial.out l.mark l.initial.s l.marks l.out l.s l.from l.last l.all
    × (l.keeps ≡ true → l.before ≡ l.marks)

abbrev pub decreases-run_repeat-loop-out : goal.decreases-run_repeat-loop-out
decreases-run_repeat-loop-out l = left_of l.last
