-- The field's number is at most 16, so its mark fits in 16 bits. Assumes nothing.
use mathlib.Core.Path.{ap, ◌∙◌}
use native.Mathlib.Omega.{arith}
use Rattle.rules.specs.State.{field_mark}
use Rattle.form_layout.proofs.Sizes.{sized}
use Rattle.call_node.proofs.node_mark.Goals as goal

pub field_mark-requires : goal.field_mark-requires
field_mark-requires c = omega (arith, c.field_of.ensures.1, (sized _ c.requires).counts.fields.1)

pub returns : goal.returns
returns c = c.field_mark.ensures ∙ ap field_mark c.field_of.ensures.0
