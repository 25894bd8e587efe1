-- By the kind of the node. Assumes nothing.
use mathlib.Core.Path.{◌∙◌}
use Rattle.eval_shortcut.proofs.Trees.{form_good_lem, node_inside}
use Rattle.eval_shortcut.proofs.Wraps.{is_leaf_by}
use Rattle.eval_shortcut.proofs.is_leaf.Goals as goal

pub node_at-x-requires : goal.node_at-x-requires
node_at-x-requires c = (form_good_lem _ _ _ c.requires.node, node_inside _ _ _ c.requires.node)

pub returns : goal.returns
returns c = λ t e. c.is_leaf.ensures ∙ is_leaf_by _ _ _ c.node_at-x.ensures t e
