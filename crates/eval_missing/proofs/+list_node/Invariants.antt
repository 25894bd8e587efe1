-- A child has a lower number than its node.
use Rattle.eval_missing.proofs.+list_node.Given as goal

abbrev pub decreases-list_node : goal.decreases-list_node
decreases-list_node l = l.field.node
