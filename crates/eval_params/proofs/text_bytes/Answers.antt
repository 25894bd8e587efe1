-- A part is cut at the end of the sheet. Assumes nothing.
use mathlib.Core.Logic.{inl}
use mathlib.Core.Path.{refl}
use native.Mathlib.Omega.{arith}
use Rattle.eval_params.proofs.Texts.{start_small, start_few, text_order, text_end, text_bytes_are}
use Rattle.eval_params.proofs.text_bytes.Goals as goal

pub area_start-area-requires : goal.area_start-area-requires
area_start-area-requires c = (inl refl, start_small _ c.requires _ c.count.ensures)

pub overflow_add-area : goal.overflow_add-area
overflow_add-area c = record { fits = omega (arith, start_few _ c.requires _ c.count.ensures _ c.area_start-area.ensures) }

pub overflow_add-from : goal.overflow_add-from
overflow_add-from c = record { fits = omega (arith, c.min-from.ensures) }

pub slice_bounds-result-count : goal.slice_bounds-result-count
slice_bounds-result-count c = text_order _ c.requires _ c.count.ensures _ c.area_start-area.ensures _ _ c.min-from.ensures _ c.min-to.ensures

pub slice_bounds-result-start : goal.slice_bounds-result-start
slice_bounds-result-start c = text_order _ c.requires _ c.count.ensures _ c.area_start-area.ensures _ _ c.min-from.ensures _ c.min-to.ensures

pub slice_bounds-result-end : goal.slice_bounds-result-end
slice_bounds-result-end c = text_end _ c.requires _ c.count.ensures _ c.area_start-area.ensures _ _ c.min-from.ensures _ c.min-to.ensures

pub returns : goal.returns
returns c = text_bytes_are _ c.requires _ c.count.ensures _ c.area_start-area.ensures _ _ c.min-from.ensures _ c.min-to.ensures
