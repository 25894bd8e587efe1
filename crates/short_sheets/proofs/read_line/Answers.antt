-- Lengths first, then the places of the area. Assumes nothing.
use mathlib.Core.Path.{refl}
use mathlib.Core.Logic.{inl}
use Rattle.short_sheets.proofs.Lines.{line_short, line_made, start_small, area_there, letters_in_lem, reads_line}
use Rattle.short_sheets.proofs.read_line.Goals as goal

pub read_lengths-requires : goal.read_lengths-requires
read_lengths-requires c = search line_short

pub count-requires : goal.count-requires
count-requires c = search line_made

pub area_start-start-requires : goal.area_start-start-requires
area_start-start-requires c = (inl refl, search start_small)

pub slice_bounds-read_places-count : goal.slice_bounds-read_places-count
slice_bounds-read_places-count c = search area_there

pub slice_bounds-read_places-start : goal.slice_bounds-read_places-start
slice_bounds-read_places-start c = search area_there

pub read_places-requires : goal.read_places-requires
read_places-requires c = search letters_in_lem

pub returns : goal.returns
returns c = search reads_line
