-- A part of the area is a part of the sheet. Assumes nothing.
use mathlib.Core.Logic.{inl}
use mathlib.Core.Path.{refl}
use native.Mathlib.Omega.{arith}
use Rattle.take_search.proofs.Items.{start_small, part_fits, part_bytes_are}
use Rattle.take_search.proofs.part_bytes.Goals as goal

pub area_start-area-requires : goal.area_start-area-requires
area_start-area-requires c = (inl refl, start_small _ _ c.requires _ c.count.ensures)

pub overflow_add-from : goal.overflow_add-from
overflow_add-from c = record { fits = omega (arith, part_fits _ _ c.requires _ c.count.ensures _ c.area_start-area.ensures) }

pub overflow_add-to : goal.overflow_add-to
overflow_add-to c = record { fits = omega (arith, part_fits _ _ c.requires _ c.count.ensures _ c.area_start-area.ensures) }

pub slice_bounds-result-end : goal.slice_bounds-result-end
slice_bounds-result-end c = part_fits _ _ c.requires _ c.count.ensures _ c.area_start-area.ensures

pub returns : goal.returns
returns c = part_bytes_are _ _ c.requires _ c.count.ensures _ c.area_start-area.ensures
