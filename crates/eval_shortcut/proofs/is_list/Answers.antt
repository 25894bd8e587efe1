use mathlib.Core.Path.{refl, sym, ◌∙◌}
use Rattle.form_layout.proofs.KindNumbers.{either, not_kind}
use Rattle.eval_shortcut.proofs.Trees.{form_good_lem, node_inside}
use Rattle.eval_shortcut.proofs.Shapes.{list_here, single_here, walked_first, walked_less, walked_next}
use Rattle.eval_shortcut.proofs.is_list.Goals as goal

pub loop-n-init : goal.loop-n-init
loop-n-init c = walked_first _ _ c.requires

pub node_at-x-requires : goal.node_at-x-requires
node_at-x-requires c = (form_good_lem _ _ _ c.loop-n.invariant.here, node_inside _ _ _ c.loop-n.invariant.here)

pub loop-n-smaller : goal.loop-n-smaller
loop-n-smaller c = walked_less _ _ _ c.loop-n.invariant _ c.node_at-x.ensures (either _ _ _ c.in-Optional.is)

pub loop-n-preserved : goal.loop-n-preserved
loop-n-preserved c = walked_next _ _ _ c.loop-n.invariant _ c.node_at-x.ensures (either _ _ _ c.in-Optional.is)

pub returns-in-Many : goal.returns-in-Many
returns-in-Many c = λ t h. let w = c.loop-n.invariant in list_here _ _ _ w.here _ c.node_at-x.ensures (either _ _ _ c.in-Many.is) ∙ sym (w.same t h)

pub returns-in_default : goal.returns-in_default
returns-in_default c = λ t h. let w = c.loop-n.invariant in single_here _ _ _ w.here _ c.node_at-x.ensures
    (not_kind _ 4 refl c.in_default.not-Optional) (not_kind _ 5 refl c.in_default.not-Many) (not_kind _ 6 refl c.in_default.not-AtLeastOne)
    (not_kind _ 9 refl c.in_default.not-Choice) ∙ sym (w.same t h)
