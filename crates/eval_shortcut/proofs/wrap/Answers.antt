-- By the kind of the child. Assumes nothing.
use mathlib.Core.Path.{refl, ap}
use Rattle.form_layout.specs.Kinds.{kind_number}
use Rattle.form_layout.proofs.KindNumbers.{not_kind}
use Rattle.eval_shortcut.proofs.Trees.{form_good_lem, node_inside}
use Rattle.eval_shortcut.proofs.Wraps.{child_itself, guard_hands, optional_hands}
use Rattle.eval_shortcut.proofs.wrap.Goals as goal

pub returns-then-leaf-child : goal.returns-then-leaf-child
returns-then-leaf-child c = child_itself _ _ _ _ _ c.if-leaf-child.true

pub node_at-x-requires : goal.node_at-x-requires
node_at-x-requires c = (form_good_lem _ _ c.requires.tree c.requires.node, node_inside _ _ c.requires.tree c.requires.node)

pub returns-in-Guard : goal.returns-in-Guard
returns-in-Guard c = guard_hands _ _ _ _ _ c.requires c.if-leaf-child.false _ c.node_at-x.ensures (ap kind_number c.in-Guard.is) _ c.guard.ensures

pub optional_unchanged-requires : goal.optional_unchanged-requires
optional_unchanged-requires c = c.requires.short c.if-leaf-child.false

pub returns : goal.returns
returns c = optional_hands _ _ _ _ _ c.requires c.if-leaf-child.false _ c.node_at-x.ensures (not_kind _ 11 refl c.in_default.not-Guard) _ c.optional_unchanged.ensures.by_index
