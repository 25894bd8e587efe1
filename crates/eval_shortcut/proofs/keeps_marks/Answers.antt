-- By what undoes its refusals, and by the leaf. Assumes nothing.
use mathlib.Core.Path.{refl, ap}
use Rattle.form_layout.specs.Kinds.{kind_number}
use Rattle.form_layout.proofs.KindNumbers.{not_kind}
use Rattle.eval_shortcut.proofs.Trees.{form_good_lem, node_inside}
use Rattle.eval_shortcut.proofs.Absent.{keeps_undone, keeps_caught, keeps_guard, keeps_other}
use Rattle.eval_shortcut.proofs.Wraps.{guard_child}
use Rattle.eval_shortcut.proofs.keeps_marks.Goals as goal

pub undoes-requires : goal.undoes-requires
undoes-requires c = c.requires

pub returns-then-undoes : goal.returns-then-undoes
returns-then-undoes c = keeps_undone _ _ _ c.undoes.ensures _ c.if-undoes.true

pub returns-then-catch : goal.returns-then-catch
returns-then-catch c = keeps_caught _ _ _ c.undoes.ensures _ c.if-undoes.false c.if-catch.true

pub node_at-x-requires : goal.node_at-x-requires
node_at-x-requires c = (form_good_lem _ _ _ c.requires.node, node_inside _ _ _ c.requires.node)

pub keeps_leaf-requires : goal.keeps_leaf-requires
keeps_leaf-requires c = guard_child _ _ _ c.requires.node _ c.node_at-x.ensures (ap kind_number c.in-Guard.is)

pub returns-in-Guard : goal.returns-in-Guard
returns-in-Guard c = keeps_guard _ _ _ c.undoes.ensures _ c.if-undoes.false c.if-catch.false _ c.node_at-x.ensures (ap kind_number c.in-Guard.is) _ c.keeps_leaf.ensures

pub keeps_leaf-requires-2 : goal.keeps_leaf-requires-2
keeps_leaf-requires-2 c = c.requires

pub returns : goal.returns
returns c = keeps_other _ _ _ c.undoes.ensures _ c.if-undoes.false c.if-catch.false _ c.node_at-x.ensures (not_kind _ 11 refl c.in_default.not-Guard) _ c.keeps_leaf-2.ensures
