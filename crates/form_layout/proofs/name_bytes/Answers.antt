-- A good name lies in the area. Assumes nothing.
use native.Mathlib.Omega.{arith}
use Rattle.form_layout.proofs.Sizes.{sized, length_counts, name_fits, bytes_there}
use Rattle.form_layout.proofs.name_bytes.Goals as goal

pub area_at-area-requires : goal.area_at-area-requires
area_at-area-requires c = length_counts _ c.requires.good

pub slice_bounds-bytes-count : goal.slice_bounds-bytes-count
slice_bounds-bytes-count c = omega (arith, sized _ c.requires.good)

pub slice_bounds-bytes-start : goal.slice_bounds-bytes-start
slice_bounds-bytes-start c = omega (arith, sized _ c.requires.good)

pub bytes-requires : goal.bytes-requires
bytes-requires c = name_fits _ _ c.requires _ c.name_at-x.ensures _ c.area_at-area.ensures

pub returns : goal.returns
returns c = bytes_there _ _ c.requires _ c.name_at-x.ensures _ c.area_at-area.ensures _ c.bytes.ensures
