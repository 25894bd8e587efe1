-- The code of a node is its tree's. Assumes nothing.
use native.Mathlib.Omega.{arith}
use mathlib.Core.Path.{refl, ◌∙◌}
use Rattle.form_fields.proofs.Given.{kind_there}
use Rattle.form_layout.proofs.Sizes.{sized}
use Rattle.form_kinds.proofs.Table.{empty_sound}
use Rattle.form_fields.proofs.kind.Goals as goal

pub fill-requires : goal.fill-requires
fill-requires c = record { good = c.requires.0; below = c.requires.1; sound = empty_sound _ }

pub bounds-codes-k : goal.bounds-codes-k
bounds-codes-k c = omega (arith, sized _ c.requires.0)

pub returns : goal.returns
returns c = λ a t κ e h s. c.from.ensures ∙ kind_there _ _ _ _ c.fill.ensures _ refl a t κ e h s
