use mathlib.Core.Path.{refl}
use mathlib.Core.Logic.{inl}
use native.Mathlib.Omega.{arith}
use Rattle.short_sheets.proofs.Writing.{written_first, sheet_fits, begun_length, argument_small, argument_within, argument_fits, written_next, written_last}
use Rattle.short_sheets.proofs.write_sheet.Goals as goal

pub begin_sheet-requires : goal.begin_sheet-requires
begin_sheet-requires c = search sheet_fits

pub loop-k-init : goal.loop-k-init
loop-k-init c = written_first _ _ _ c.requires _ c.begin_sheet.ensures

pub overflow_add-end : goal.overflow_add-end
overflow_add-end c = omega (arith, argument_small _ _ _ _ c.loop-k.at c.loop-k.k c.loop-k.invariant c.loop-k-test.true _ c.from.ensures)

pub slice_bounds-put_argument-end : goal.slice_bounds-put_argument-end
slice_bounds-put_argument-end c = search argument_within

pub put_argument-requires : goal.put_argument-requires
put_argument-requires c = search argument_fits

pub loop-k-preserved : goal.loop-k-preserved
loop-k-preserved c = search written_next

pub area_start-requires : goal.area_start-requires
area_start-requires c = (inl refl, omega arith)

pub returns : goal.returns
returns c =
    let long = begun_length _ _ _ c.requires _ c.begin_sheet.ensures in
    written_last _ _ _ _ c.loop-k.at c.loop-k.k c.loop-k.invariant _ _ long c.area_start.ensures c.loop-k-test.false
