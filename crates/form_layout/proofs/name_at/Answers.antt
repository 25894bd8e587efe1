-- A name record lies within the form. Assumes nothing.
use native.Mathlib.Omega.{arith}
use lib.ListN.{length-drop}
use Rattle.form_layout.proofs.Sizes.{sized, length_counts, name_there}
use Rattle.form_layout.proofs.name_at.Goals as goal

pub names_at-at-requires : goal.names_at-at-requires
names_at-at-requires c = length_counts _ c.requires.0

pub slice_bounds-record_at-count : goal.slice_bounds-record_at-count
slice_bounds-record_at-count c = omega (arith, sized _ c.requires.0)

pub slice_bounds-record_at-start : goal.slice_bounds-record_at-start
slice_bounds-record_at-start c = omega (arith, sized _ c.requires.0)

pub record_at-requires : goal.record_at-requires
record_at-requires c = omega (arith, length-drop c.names_at-at.result c.args.b.now, sized _ c.requires.0)

pub returns : goal.returns
returns c = name_there _ _ _ _ c.requires.1 c.names_at-at.ensures c.record_at.ensures
