-- The refusal of a table, and the form of an entry, as numbers.
use Rattle.std.specs.Prelude.{◌≡◌, List, ℕ, ◌<◌, Result, Ok, Err}
use Rattle.std.proofs.Math.Option.{Option, some, none}
use Rattle.rules.specs.Outcome.{Outcome, ok, refused, fault}
use Rattle.rules.specs.Accept.{Accepted}
use Rattle.rules.specs.Codes.{place_code}
use Rattle.rules.specs.Commands.{TablePart, table_forms, entry_at_fault}
use Rattle.rules.specs.Reported.{number_of, place_told}
use Rattle.rules.specs.declared.Refusal.{Refusal}
use Rattle.command_check.specs.declared.TableFault.{TableFault}
use Rattle.command_check.specs.declared.Part.{Part}
use Rattle.command_check.specs.declared.TableRefused.{TableRefused}
use Rattle.command_check.specs.declared.FormPart.{FormPart}

-- how the tests of a table end, beside the entry whose form is at fault. A fault has no number
unfoldable pub table_told : Outcome (List Accepted) → Option ℕ → Option TableRefused
table_told (ok fs) e = some (record { number = 0; place = 0; entry = 0 })
table_told (refused x) e = some (record { number = x.number; place = place_code x.place; entry = place_code e })
table_told (fault x) e = none

abbrev pub fault_told : TableFault → TableRefused
fault_told e = record { number = number_of e.fault.refusal; place = place_told e.fault.place; entry = place_told e.entry }

-- how the tests ended: number 0 if nothing is refused
abbrev pub table_reported : {A : Type 0} → Result A TableFault → TableRefused
table_reported (Ok a) = record { number = 0; place = 0; entry = 0 }
table_reported (Err e) = fault_told e

-- as the rules say, with numbers that fit in a word
pub record TableTested (t : List ℕ) (r : TableRefused) : Type 0 where
  pub told : table_told (table_forms t) (entry_at_fault t) ≡ some r
  pub place : r.place < 4294967296
  pub entry : r.entry < 4294967296

-- the part of a table that is an entry's form
unfoldable pub part_told : Outcome TablePart → Option FormPart
part_told (ok p) = some (record { number = 0; place = 0; offset = p.offset; length = p.size })
part_told (refused x) = some (record { number = x.number; place = place_code x.place; offset = 0; length = 0 })
part_told (fault x) = none

-- refused, there is no place, and offset and length are 0
abbrev pub part_reported : Result Part Refusal → FormPart
part_reported (Ok p) = record { number = 0; place = 0; offset = p.offset; length = p.length }
part_reported (Err e) = record { number = number_of e; place = 0; offset = 0; length = 0 }
