-- A whole step: a sheet as lengths and places, the next one written from them, and what is answered.
use Rattle.std.specs.Prelude.{◌≡◌, true, false, List, [], map, ℕ, ◌≤◌, length, take, replicate}
use Rattle.std.proofs.Math.Option.{some, none}
use Rattle.std.proofs.lemmas.List.Edits.{sets}
use Rattle.std.specs.Prelude.{if◌then◌else◌}
use Rattle.rules.specs.Codes.{place_code}
use Rattle.rules.specs.Run.{padded}
use Rattle.rules.specs.Sheet.{arguments}
use Rattle.rules.specs.Encode.{encode_sheet}
use Rattle.rules_short.specs.Short.{alphabet_good, sheet_legal, lengths, places, parted, letter_at, next_arguments, NextReport, written}
use Rattle.short_sheets.specs.declared.NextSheet.{NextSheet}
use Rattle.short_sheets.specs.Steps.{counted, next_lengths, next_count, PlacesIn, CanWrite}

-- ---- what is answered

abbrev pub answered : ℕ → ℕ → ℕ → NextSheet
answered number last size = record { number = number; place = 0; last = last; length = size }

-- a place is itself plus 1, or 0 for none; yes is 1, no 0
unfoldable pub told : NextReport → NextSheet
told x = record { number = x.number; place = place_code x.place; last = if x.last then 1 else 0; length = x.length }

pub record Reports (x : NextReport) (r : NextSheet) (o : List ℕ) : Type 0 where
  pub answer : r ≡ told x
  pub output : o ≡ x.output

-- ---- the line

-- what the tests let through
pub record Given (al s : List ℕ) : Type 0 where
  pub alphabet : alphabet_good al ≡ true
  pub sheet : sheet_legal al s ≡ true

pub record CanRead (al s ns ds : List ℕ) : Type 0 where
  pub given : Given al s
  pub lengths : ns ≡ replicate 3 0
  pub places : ds ≡ replicate 12 0

pub record ReadsLine (al : List ℕ) (args : List (List ℕ)) (ns ds ns' ds' : List ℕ) : Type 0 where
  pub lengths : ns' ≡ sets ns 0 (lengths args)
  pub places : ds' ≡ sets ds 0 (places al args)

-- lengths and places of the next arguments, and how many there are: 4 after the last
pub record NextLine (al : List ℕ) (args : List (List ℕ)) (r : ℕ) (ns ds : List ℕ) : Type 0 where
  pub count : r ≡ next_count (length al) (lengths args) (places al args)
  pub lengths : ns ≡ padded 3 (next_lengths (length al) (lengths args) (places al args))
  pub places : ds ≡ padded 12 (counted (length al) (places al args))

pub record CanWriteLine (al : List ℕ) (count : ℕ) (ns ds : List ℕ) (size : ℕ) : Type 0 where
  pub few : count ≤ length ns
  pub letters : PlacesIn al ds
  pub room : CanWrite size (take count ns) ds

pub record WritesLine (al : List ℕ) (count : ℕ) (ns ds : List ℕ) (size : ℕ) (r : NextSheet) (ds' o : List ℕ) : Type 0 where
  pub letters : ds' ≡ map (letter_at al) ds
  pub answer : r ≡ answered 0 0 (length (encode_sheet (parted (take count ns) (map (letter_at al) ds))))
  pub output : o ≡ padded size (encode_sheet (parted (take count ns) (map (letter_at al) ds)))

-- ---- the step

pub record CanStep (al s : List ℕ) (n : ℕ) : Type 0 where
  pub given : Given al s
  pub room : 22 ≤ n

-- the report once every test is passed
unfoldable pub stepped : List ℕ → List ℕ → ℕ → NextReport
stepped al s n = elim (next_arguments al (arguments s)) [ none ↦ written n 0 true [] | some args ↦ written n 0 false (encode_sheet args) ]
