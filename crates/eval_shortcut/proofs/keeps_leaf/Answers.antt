-- By the kind of the node. Assumes nothing.
use mathlib.Core.Path.{refl, ap}
use Rattle.form_layout.specs.Kinds.{kind_number}
use Rattle.form_layout.proofs.KindNumbers.{not_kind}
use Rattle.eval_shortcut.proofs.Trees.{form_good_lem, node_inside}
use Rattle.eval_shortcut.proofs.Absent.{leaf_positional, leaf_argument, leaf_other}
use Rattle.eval_shortcut.proofs.keeps_leaf.Goals as goal

pub node_at-x-requires : goal.node_at-x-requires
node_at-x-requires c = (form_good_lem _ _ _ c.requires.node, node_inside _ _ _ c.requires.node)

pub returns-in-Argument : goal.returns-in-Argument
returns-in-Argument c = leaf_argument _ _ _ c.node_at-x.ensures (ap kind_number c.in-Argument.is)

pub returns-in-Positional : goal.returns-in-Positional
returns-in-Positional c = leaf_positional _ _ _ c.node_at-x.ensures (ap kind_number c.in-Positional.is)

pub returns-in_default : goal.returns-in_default
returns-in_default c = leaf_other _ _ _ c.node_at-x.ensures (not_kind _ 3 refl c.in_default.not-Positional) (not_kind _ 2 refl c.in_default.not-Argument)
