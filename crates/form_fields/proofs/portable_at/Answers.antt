-- A good name lies in the area. Assumes nothing.
use native.Mathlib.Omega.{arith}
use Rattle.form_fields.proofs.Given.{portable_there}
use Rattle.form_layout.proofs.Sizes.{sized, length_counts, name_fits}
use Rattle.form_fields.proofs.portable_at.Goals as goal

pub area_at-area-requires : goal.area_at-area-requires
area_at-area-requires c = length_counts _ c.requires.good

pub slice_bounds-portable_name-count : goal.slice_bounds-portable_name-count
slice_bounds-portable_name-count c = omega (arith, sized _ c.requires.good)

pub slice_bounds-portable_name-start : goal.slice_bounds-portable_name-start
slice_bounds-portable_name-start c = omega (arith, sized _ c.requires.good)

pub portable_name-requires : goal.portable_name-requires
portable_name-requires c = name_fits _ _ c.requires _ c.name_at-x.ensures _ c.area_at-area.ensures

pub returns : goal.returns
returns c = portable_there _ _ _ c.name_at-x.ensures _ c.area_at-area.ensures _ c.portable_name.ensures
