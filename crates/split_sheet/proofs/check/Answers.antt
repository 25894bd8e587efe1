-- Each way out is a law of the definition (Faults). Assumes nothing.
use mathlib.Core.Path.{refl}
use mathlib.Core.Logic.{inl}
use native.Mathlib.Omega.{arith}
use Rattle.wire.specs.Laws.{start_most}
use Rattle.split_sheet.proofs.Faults.{no_count, too_many_lem, bad_table, area_there, too_long, no_fault}
use Rattle.split_sheet.proofs.check.Goals as goal

pub returns-then-s-lt2 : goal.returns-then-s-lt2
returns-then-s-lt2 c = search no_count

pub returns-then-count-gt-ARGUMENTS : goal.returns-then-count-gt-ARGUMENTS
returns-then-count-gt-ARGUMENTS c = search too_many_lem

pub table_good-requires : goal.table_good-requires
table_good-requires c = (inl refl, omega arith)

pub returns-then-not-table_good : goal.returns-then-not-table_good
returns-then-not-table_good c = search bad_table

pub area_start-requires : goal.area_start-requires
area_start-requires c = (inl refl, omega (arith, start_most 2 c.u16_at-count.result (inl refl)))

pub overflow_sub-s : goal.overflow_sub-s
overflow_sub-s c = search area_there

pub returns-then-s-area_start-gt-AREA : goal.returns-then-s-area_start-gt-AREA
returns-then-s-area_start-gt-AREA c = search too_long

pub returns : goal.returns
returns c = search no_fault
