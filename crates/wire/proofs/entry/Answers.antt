-- What a good table says of the two offsets of an entry (`placed`) answers every need. Assumes nothing.
use native.Mathlib.Omega.{arith}
use Rattle.wire.specs.Laws.{placed, entry_part}
use Rattle.wire.proofs.entry.Goals as goal

pub area_start-start-requires : goal.area_start-start-requires
area_start-start-requires c = (c.requires.width, omega (arith, placed c.requires))

pub offset_at-requires : goal.offset_at-requires
offset_at-requires c = (c.requires.width, omega (arith, placed c.requires))

pub overflow_add-from : goal.overflow_add-from
overflow_add-from c = omega (arith, placed c.requires)

pub offset_at-requires-2 : goal.offset_at-requires-2
offset_at-requires-2 c = (c.requires.width, omega (arith, placed c.requires))

pub overflow_add-to : goal.overflow_add-to
overflow_add-to c = omega (arith, placed c.requires)

pub slice_bounds-result-count : goal.slice_bounds-result-count
slice_bounds-result-count c = omega (arith, placed c.requires)

pub slice_bounds-result-start : goal.slice_bounds-result-start
slice_bounds-result-start c = omega (arith, placed c.requires)

pub slice_bounds-result-end : goal.slice_bounds-result-end
slice_bounds-result-end c = omega (arith, placed c.requires)

pub returns : goal.returns
returns c = search entry_part
