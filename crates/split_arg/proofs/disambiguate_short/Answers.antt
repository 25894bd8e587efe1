-- A letter alone is no matter of looking up (`LookUp`). Assumes nothing.
use mathlib.Core.Path.{sym, ◌∙◌}
use Rattle.split_arg.proofs.LookUp.{alone, no_letter, no_single}
use Rattle.split_arg.proofs.disambiguate_short.Goals as goal

pub returns-in_default : goal.returns-in_default
returns-in_default c = no_letter _ _ _ c.requires.0 (sym c.decode_at.ensures ∙ c.in_default.is)

pub returns-then-first-name : goal.returns-then-first-name
returns-then-first-name c = alone _ _ _ c.requires.0 _ (sym c.decode_at.ensures ∙ c.in-Some.is) c.if-first-name.true

pub returns-then-letters-le-SCANNED-2 : goal.returns-then-letters-le-SCANNED-2
returns-then-letters-le-SCANNED-2 c = no_single _ _ _ c.requires.0 _ _ (sym c.decode_at.ensures ∙ c.in-Some.is) c.if-first-name.false c.look_up.ensures

pub returns : goal.returns
returns c = no_single _ _ _ c.requires.0 _ _ (sym c.decode_at.ensures ∙ c.in-Some.is) c.if-first-name.false c.look_up_long.ensures
