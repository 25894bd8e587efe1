-- The range of the first byte picks the row of the table, by its number, or none. Assumes nothing.
use mathlib.Core.Path.{refl, sym, ◌∙◌}
use native.Mathlib.Nat.{le_refl}
use native.Mathlib.Omega.{arith}
use Rattle.utf8.specs.Utf8.{◌to◌, table, fits}
use Rattle.utf8.specs.Laws.{inside, apart, free, after_lead, by_row, by_none}
use Rattle.utf8.proofs.longer.Goals as goal

pub returns-in-194-to-223 : goal.returns-in-194-to-223
unfolding table free apart after_lead fits
returns-in-194-to-223 c = c.two.ensures ∙ sym (by_row (0xC2 to 0xDF) _ _ (inside 0xC2 0xDF _ (omega arith) (omega arith)) 1 _ refl refl refl)

pub returns-in-224 : goal.returns-in-224
unfolding table free apart after_lead fits
returns-in-224 c = c.three.ensures ∙ sym (by_row (0xE0 to 0xE0) _ _ (inside 0xE0 0xE0 _ (omega arith) (omega arith)) 2 _ refl refl refl)

pub returns-in-225-to-236 : goal.returns-in-225-to-236
unfolding table free apart after_lead fits
returns-in-225-to-236 c = c.three-in-225-to-236.ensures ∙ sym (by_row (0xE1 to 0xEC) _ _ (inside 0xE1 0xEC _ (omega arith) (omega arith)) 3 _ refl refl refl)

pub returns-in-237 : goal.returns-in-237
unfolding table free apart after_lead fits
returns-in-237 c = c.three-in-237.ensures ∙ sym (by_row (0xED to 0xED) _ _ (inside 0xED 0xED _ (omega arith) (omega arith)) 4 _ refl refl refl)

pub returns-in-238-to-239 : goal.returns-in-238-to-239
unfolding table free apart after_lead fits
returns-in-238-to-239 c = c.three-in-238-to-239.ensures ∙ sym (by_row (0xEE to 0xEF) _ _ (inside 0xEE 0xEF _ (omega arith) (omega arith)) 5 _ refl refl refl)

pub returns-in-240 : goal.returns-in-240
unfolding table free apart after_lead fits
returns-in-240 c = c.four.ensures ∙ sym (by_row (0xF0 to 0xF0) _ _ (inside 0xF0 0xF0 _ (omega arith) (omega arith)) 6 _ refl refl refl)

pub returns-in-241-to-243 : goal.returns-in-241-to-243
unfolding table free apart after_lead fits
returns-in-241-to-243 c = c.four-in-241-to-243.ensures ∙ sym (by_row (0xF1 to 0xF3) _ _ (inside 0xF1 0xF3 _ (omega arith) (omega arith)) 7 _ refl refl refl)

pub returns-in-244 : goal.returns-in-244
unfolding table free apart after_lead fits
returns-in-244 c = c.four-in-244.ensures ∙ sym (by_row (0xF4 to 0xF4) _ _ (inside 0xF4 0xF4 _ (omega arith) (omega arith)) 8 _ refl refl refl)

pub returns-in_default : goal.returns-in_default
unfolding table free apart after_lead fits
returns-in_default c = sym (by_none (0x80 to 0xC1) _ _ (inside 0x80 0xC1 _ (omega arith) (omega arith)) refl)

pub returns-in_default-2 : goal.returns-in_default-2
unfolding table free apart after_lead fits
returns-in_default-2 c = sym (by_none (0xF5 to _) _ _ (inside 0xF5 _ _ (omega arith) (le_refl _)) refl)
