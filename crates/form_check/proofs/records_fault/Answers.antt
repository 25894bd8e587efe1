-- The two slices are the records and the area of the form. Assumes nothing.
use native.Mathlib.Omega.{arith}
use lib.ListN.{length-drop}
use Rattle.form_check.proofs.Verdict.{records_found}
use Rattle.form_layout.proofs.Sizes.{sized, length_counts, from_drop}
use Rattle.form_check.proofs.records_fault.Goals as goal

pub names_at-names-requires : goal.names_at-names-requires
names_at-names-requires c = length_counts _ c.requires

pub area_at-area-requires : goal.area_at-area-requires
area_at-area-requires c = length_counts _ c.requires

pub slice_bounds-names_fault-count : goal.slice_bounds-names_fault-count
slice_bounds-names_fault-count c = omega (arith, sized _ c.requires)

pub slice_bounds-names_fault-start : goal.slice_bounds-names_fault-start
slice_bounds-names_fault-start c = omega (arith, sized _ c.requires)

pub slice_bounds-names_fault-count-2 : goal.slice_bounds-names_fault-count-2
slice_bounds-names_fault-count-2 c = omega (arith, sized _ c.requires)

pub slice_bounds-names_fault-start-2 : goal.slice_bounds-names_fault-start-2
slice_bounds-names_fault-start-2 c = omega (arith, sized _ c.requires)

pub name_count-requires : goal.name_count-requires
name_count-requires c = (sized _ c.requires).counts.long

pub names_fault-requires : goal.names_fault-requires
names_fault-requires c = rw (from_drop c.names_at-names.result c.args.b.now) (omega (arith, length-drop c.names_at-names.result c.args.b.now, sized _ c.requires))

pub returns : goal.returns
returns c = records_found _ _ _ _ _ c.names_at-names.ensures c.area_at-area.ensures c.name_count.ensures c.names_fault.ensures
