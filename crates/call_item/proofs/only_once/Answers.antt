-- Each refusal in its turn, then the search. Assumes nothing.
use mathlib.Core.Path.{◌∙◌, ap, sym}
use mathlib.Core.Option.{some}
use native.Mathlib.Omega.{arith}
use Rattle.call_item.proofs.Laws.{once_refused, once_beyond, once_place, once_wide, once_none, once_told}
use Rattle.call_item.proofs.only_once.Goals as goal
use Rattle.call_item.proofs.only_once.Goals.{then-count-place-via-then-count-place, then-count-place-via-else-count-place+then-place-gt4294967295}

pub returns-in-Err : goal.returns-in-Err
returns-in-Err c = once_refused _ _ _ _ c.in-Err.ensures ∙ ap some (sym c.refused.ensures)

pub returns-then-count-place : goal.returns-then-count-place
returns-then-count-place c =
    elim c.then-count-place.branch [
      | then-count-place-via-then-count-place w ↦
          once_beyond _ _ _ _ c.in-Ok.ensures w.if-count-place.true ∙ ap some (sym c.refused-then-count-place.ensures)
      | then-count-place-via-else-count-place+then-place-gt4294967295 w ↦
          once_wide _ _ _ _ c.in-Ok.ensures w.if-count-place.false w.if-place-gt4294967295.true ∙ ap some (sym c.refused-then-count-place.ensures)
    ]

pub earlier-found-requires : goal.earlier-found-requires
earlier-found-requires c = once_place _ _ _ _ c.in-Ok.ensures c.if-count-place.false

pub returns-then-found-eq0 : goal.returns-then-found-eq0
returns-then-found-eq0 c =
    once_none _ _ _ _ c.in-Ok.ensures c.if-count-place.false c.if-place-gt4294967295.false _ c.earlier-found.ensures c.if-found-eq0.true
    ∙ ap some (sym c.answered.ensures)

pub overflow_cast-found : goal.overflow_cast-found
overflow_cast-found c = omega (arith, c.earlier-found.ensures.within, c.if-place-gt4294967295.false)

pub returns : goal.returns
returns c =
    once_told _ _ _ _ c.in-Ok.ensures c.if-count-place.false c.if-place-gt4294967295.false _ c.earlier-found.ensures c.if-found-eq0.false
    ∙ ap some (sym c.answered-2.ensures)
