-- The part that `text_part` names. Assumes nothing.
use mathlib.Core.Path.{refl}
use Rattle.call_text.proofs.Words.{sheet_fits, sheet_text, form_fits, form_text}
use Rattle.call_text.proofs.text.Goals as goal

pub slice_bounds-result-end : goal.slice_bounds-result-end
slice_bounds-result-end c = sheet_fits _ _ _ _ _ c.text_part-x.ensures _ _ refl refl c.if-x-eq0.true

pub returns-then-x-eq0 : goal.returns-then-x-eq0
returns-then-x-eq0 c = sheet_text _ _ _ _ _ c.text_part-x.ensures _ _ refl refl c.if-x-eq0.true

pub slice_bounds-result-end-2 : goal.slice_bounds-result-end-2
slice_bounds-result-end-2 c = form_fits _ _ _ _ _ c.text_part-x.ensures _ _ refl refl c.if-x-eq0.false

pub returns : goal.returns
returns c = form_text _ _ _ _ _ c.text_part-x.ensures _ _ refl refl c.if-x-eq0.false
