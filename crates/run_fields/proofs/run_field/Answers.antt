-- A flag and a positional by the lemmas of their nodes, any other node by the general run. Assumes nothing.
use mathlib.Core.Logic.{inl, inr}
use mathlib.Core.Path.{ap}
use native.Mathlib.Omega.{arith}
use Rattle.form_layout.specs.Kinds.{kind_number}
use Rattle.eval_shortcut.proofs.Given.{flag_ready, flag_node, positional_says}
use Rattle.run_fields.proofs.Fields.{field_good, field_inside, field_leaf, field_put}
use Rattle.run_fields.proofs.run_field.Goals as goal

pub node_at-x-requires : goal.node_at-x-requires
node_at-x-requires c = (field_good _ _ _ _ _ _ _ _ c.requires, field_inside _ _ _ _ _ _ _ _ c.requires)

pub eval_flag-flag-requires : goal.eval_flag-flag-requires
eval_flag-flag-requires c = flag_ready _ _ _ _ _ _ _ _ (field_leaf _ _ _ _ _ _ _ _ c.requires _ c.node_at-x.ensures (inl (ap kind_number c.in-Flag.is))) _ c.node_at-x.ensures

pub put_value-requires : goal.put_value-requires
put_value-requires c = omega (arith, c.requires.space.room)

pub returns-in-Flag : goal.returns-in-Flag
returns-in-Flag c =
    λ t h. field_put _ _ _ t _ _ _ _ _ _ _ _
    (flag_node _ _ _ _ _ _ _ _ (field_leaf _ _ _ _ _ _ _ _ c.requires _ c.node_at-x.ensures (inl (ap kind_number c.in-Flag.is))) _ c.node_at-x.ensures _ _ (ap kind_number c.in-Flag.is)
    c.eval_flag-flag.ensures t h) c.put_value.ensures

pub put_value-requires-in-Positional : goal.put_value-requires-in-Positional
put_value-requires-in-Positional c = omega (arith, c.requires.space.room)

pub returns-in-Positional : goal.returns-in-Positional
returns-in-Positional c =
    λ t h. field_put _ _ _ t _ _ _ _ _ _ _ _
    (positional_says _ _ _ _ _ _ _ _ (field_leaf _ _ _ _ _ _ _ _ c.requires _ c.node_at-x.ensures (inr (ap kind_number c.in-Positional.is))) _ c.node_at-x.ensures _ _
    (ap kind_number c.in-Positional.is) c.eval_positional-operand.ensures t h) c.put_value-in-Positional.ensures
