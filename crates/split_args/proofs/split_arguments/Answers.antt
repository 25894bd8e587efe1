use mathlib.Core.Path.{◌≡◌, refl}
use mathlib.Core.Logic.{inl}
use borrow.Author.Rules.{rules}
use Rattle.split_args.proofs.Lines.{two_bytes, count_is, going_first, has_offset, has_argument, fits_here}
use Rattle.split_args.proofs.Lines.{too_many_lem, goes_on, count_few, place_few, ambiguous_few, ambiguous_letter_lem, marker_small, all_done, fits_32, fits_64}
use Rattle.split_args.specs.Construct.{marker_after}
use Rattle.split_args.proofs.split_arguments.Goals.{then-group, else-group}
use Rattle.split_args.proofs.split_arguments.Goals as goal

pub u16_at-n-requires : goal.u16_at-n-requires
u16_at-n-requires c = search two_bytes

pub loop-k-init : goal.loop-k-init
loop-k-init c = (search going_first, search count_is)

pub offset_at-begin-requires : goal.offset_at-begin-requires
offset_at-begin-requires c = (inl refl, search has_offset)

pub entry-os-requires : goal.entry-os-requires
entry-os-requires c = search has_argument

pub next_group-group-requires : goal.next_group-group-requires
next_group-group-requires c = (search fits_here, search rules)

pub returns-then-at-count : goal.returns-then-at-count
returns-then-at-count c = search too_many_lem

pub overflow_add-result : goal.overflow_add-result
overflow_add-result c = record { fits = search (fits_64, place_few) }

pub overflow_add-result-in-Some : goal.overflow_add-result-in-Some
overflow_add-result-in-Some c = record { fits = search (fits_64, ambiguous_few) }

pub overflow_cast-result : goal.overflow_cast-result
overflow_cast-result c = record { fits = search (fits_32, ambiguous_few) }

pub overflow_add-result-in-Some-2 : goal.overflow_add-result-in-Some-2
overflow_add-result-in-Some-2 c = record { fits = search (fits_64, count_few) }

pub overflow_cast-result-in-Some : goal.overflow_cast-result-in-Some
overflow_cast-result-in-Some c = record { fits = search (fits_32, count_few) }

pub returns-in-Some : goal.returns-in-Some
returns-in-Some c = search ambiguous_letter_lem

pub overflow_add-at : goal.overflow_add-at
overflow_add-at c = record { fits = search (fits_64, count_few) }

pub loop-k-preserved : goal.loop-k-preserved
loop-k-preserved c =
    let after : c.if-group.marker ≡ marker_after c.loop-k.marker c.next_group-group.result.marker c.loop-k.at =
    elim c.if-group.branch [ then-group w ↦ rw w.if-group.true w.marker-is | else-group w ↦ rw w.if-group.false w.marker-is ] in
    (search goes_on, search rules)

pub overflow_cast-result-2 : goal.overflow_cast-result-2
overflow_cast-result-2 c = record { fits = search fits_32 }

pub overflow_cast-result-3 : goal.overflow_cast-result-3
overflow_cast-result-3 c = record { fits = search (fits_32, marker_small) }

pub returns : goal.returns
returns c = search all_done
