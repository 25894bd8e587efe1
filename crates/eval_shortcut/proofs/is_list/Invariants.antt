-- Invariant: the node that the walk is at is a list just where the first one is. Measure: the number of that node. Assumes nothing.
use Rattle.eval_shortcut.proofs.Shapes.{Walked}
use Rattle.eval_shortcut.proofs.is_list.Given as goal

abbrev pub invariant-loop-n : goal.invariant-loop-n
invariant-loop-n l = Walked l.form l.node l.n

abbrev pub decreases-loop-n : goal.decreases-loop-n
decreases-loop-n l = l.n
