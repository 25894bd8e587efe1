-- The members' measures: the greatest node, times two, and a rank among the functions of one node.
use Prim.Native.Nat.{max, ◌+◌, ◌*◌}
use Rattle.eval_list.proofs.+lists.Given as goal

abbrev pub decreases-run_either : goal.decreases-run_either
decreases-run_either l = max l.sides.left l.sides.right * 2 + 2

abbrev pub decreases-run_list : goal.decreases-run_list
decreases-run_list l = l.field.node * 2 + 1

abbrev pub decreases-run_optional_list : goal.decreases-run_optional_list
decreases-run_optional_list l = l.child.node * 2 + 2
