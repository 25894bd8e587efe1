-- By the kind of the child. Assumes nothing.
use mathlib.Core.Path.{refl, ap}
use borrow.Author.Rules.{rules}
use Rattle.form_layout.specs.Kinds.{kind_number}
use Rattle.form_layout.proofs.KindNumbers.{not_kind}
use Rattle.eval_shortcut.proofs.Trees.{form_good_lem, node_inside}
use Rattle.eval_shortcut.proofs.Wraps.{guard_child, optional_child, guard_leaf, guard_other, optional_leaf, optional_other, optional_kept, no_leaf}
use Rattle.eval_shortcut.proofs.leaf_below.Goals as goal

pub node_at-x-requires : goal.node_at-x-requires
node_at-x-requires c =
    let (t, e) = c.requires in
    (form_good_lem _ _ t e, node_inside _ _ t e)

pub is_leaf-requires : goal.is_leaf-requires
is_leaf-requires c =
    let (t, e) = c.requires in
    guard_child _ _ t e _ c.node_at-x.ensures (ap kind_number c.in-Guard.is)

pub returns-in-Guard-clause-value : goal.returns-in-Guard-clause-value
returns-in-Guard-clause-value c = λ t e. guard_leaf _ _ _ c.node_at-x.ensures t e _ c.is_leaf.ensures (ap kind_number c.in-Guard.is) c.if-is_leaf.true

pub returns-in_default-clause-value : goal.returns-in_default-clause-value
returns-in_default-clause-value c = λ t e. guard_other _ _ _ c.node_at-x.ensures t e _ c.is_leaf.ensures (ap kind_number c.in-Guard.is) c.if-is_leaf.false

pub is_leaf-requires-in-Optional-1 : goal.is_leaf-requires-in-Optional-1
is_leaf-requires-in-Optional-1 c =
    let (t, e) = c.requires in
    optional_child _ _ t e _ c.node_at-x.ensures (ap kind_number c.in-Optional.is)

pub keeps_marks-requires : goal.keeps_marks-requires
keeps_marks-requires c =
    let (t, e) = c.requires in
    optional_child _ _ t e _ c.node_at-x.ensures (ap kind_number c.in-Optional.is)

pub returns-in-Optional-clause-value : goal.returns-in-Optional-clause-value
returns-in-Optional-clause-value c =
    λ t e. optional_leaf _ _ _ c.node_at-x.ensures t e _ c.if-is_leaf-2.ensures _ c.keeps_marks.ensures (ap kind_number c.in-Optional.is) refl c.if-not-keeps_marks.true

pub returns-in_default-2-clause-value : goal.returns-in_default-2-clause-value
returns-in_default-2-clause-value c =
    λ t e. optional_kept _ _ _ c.node_at-x.ensures t e _ c.if-is_leaf-2.ensures _ c.keeps_marks.ensures (ap kind_number c.in-Optional.is) refl c.if-not-keeps_marks.false

pub returns-in_default-3-clause-value : goal.returns-in_default-3-clause-value
returns-in_default-3-clause-value c = λ t e. optional_other _ _ _ c.node_at-x.ensures t e _ c.if-is_leaf-2.ensures (ap kind_number c.in-Optional.is) refl

pub returns-in_default-4-clause-value : goal.returns-in_default-4-clause-value
returns-in_default-4-clause-value c = λ t e. no_leaf _ _ _ c.node_at-x.ensures t e (not_kind _ 11 refl (λ z. search rules)) (not_kind _ 4 refl (λ z. search rules))
