-- Sheets of a batch that were run, and what is left once they were looked at.
use Rattle.std.specs.Prelude.{List, [], ◌∷◌, ◌≡◌, ℕ, zero, suc, ◌+◌, ◌*◌, ◌≤◌, ◌<◌, length, get_or, take}
use Rattle.rules.specs.Outcome.{ok}
use Rattle.rules.specs.Run.{Report, padded, run}
use Rattle.rules.specs.Batch.{sheet_count, batch_sheets, sheet_record, run_batch}
use Rattle.rules.specs.BatchAnswered.{slice_part}
use Rattle.rules_careful.specs.Careful.{refused_word}
use Rattle.rules_careful.specs.CarefulBatch.{sheets_by, careful_sheet}
use Rattle.batch_parts.specs.Parts.{PartFits, Replaced}
use Rattle.batch_run.specs.Sheets.{HoldsParts}

-- ---- one line
-- the first r records have a kind, and record r has none or is the 257th
pub record CountsItems (words : List ℕ) (r : ℕ) : Type 0 where
  pub few : r ≤ 256
  pub kinds : (j : ℕ) → j < r → get_or words (7 * j) 0 ≡ 0 → ⊥
  pub ends : r < 256 → get_or words (7 * r) 0 ≡ 0

-- a slice of 256 records, of which those with a kind stand before the others
pub record KindsFirst (words : List ℕ) : Type 0 where
  pub room : 1792 ≤ length words
  pub past : (j k : ℕ) → j ≤ k → k < 256 → get_or words (7 * j) 0 ≡ 0 → get_or words (7 * k) 0 ≡ 0

-- a run that was accepted, and its items
pub record RunIs (s i form : List ℕ) (x : Report) : Type 0 where
  pub runs : run form s 1792 8240 192 ≡ ok x
  pub fine : x.number ≡ 0
  pub items : i ≡ x.items

pub record HasRun (s i : List ℕ) : Type 0 where
  pub form : List ℕ
  pub report : Report
  pub ran : RunIs s i form report

-- what becomes of a report: a place plus 1 is misread, or none is
unfoldable pub looked_report : Report → ℕ → Report
looked_report x zero = x
looked_report x (suc p) = refused_word 8240 192 x p

pub record MisreadTold (s i : List ℕ) (r : ℕ) : Type 0 where
  pub same : (form : List ℕ) (x : Report) → RunIs s i form x → careful_sheet form s ≡ ok (looked_report x r)

-- ---- one sheet
-- a record that becomes 50 at a place plus 1: no words, and its tries stay
abbrev pub refused_words : ℕ → ℕ → List ℕ → List ℕ
refused_words k place o = 50 ∷ place ∷ get_or o (4 * k + 2) 0 ∷ 0 ∷ []

-- part k of the answers is as many words as record k says, and then 0
pub record HoldsWords (k : ℕ) (r a : List ℕ) : Type 0 where
  pub words : List ℕ
  pub few : length words ≤ 8240
  pub count : get_or r (4 * k + 3) 0 ≡ length words
  pub part : slice_part 8240 k a ≡ padded 8240 words

-- record and parts k are those of its run
pub record PartRan (s : List ℕ) (k : ℕ) (r i a form : List ℕ) (x : Report) : Type 0 where
  pub runs : run form s 1792 8240 192 ≡ ok x
  pub words : slice_part 4 k r ≡ sheet_record x
  pub items : slice_part 1792 k i ≡ x.items
  pub answers : slice_part 8240 k a ≡ x.answers

pub record HasPart (s : List ℕ) (k : ℕ) (r i a : List ℕ) : Type 0 where
  pub form : List ℕ
  pub report : Report
  pub ran : PartRan s k r i a form report
  pub record_fits : PartFits 4 k r
  pub items_fit : PartFits 1792 k i
  pub answers_fit : PartFits 8240 k a

-- they become those of its careful run
pub record SheetLooked (s : List ℕ) (k : ℕ) (r r' a a' form : List ℕ) : Type 0 where
  pub report : Report
  pub runs : careful_sheet form s ≡ ok report
  pub records : Replaced 4 k (sheet_record report) r r'
  pub answers : Replaced 8240 k report.answers a a'

pub record LookedPart (s : List ℕ) (k : ℕ) (r r' i a a' : List ℕ) : Type 0 where
  pub same : (form : List ℕ) (x : Report) → PartRan s k r i a form x → SheetLooked s k r r' a a' form

-- ---- many
-- the slices hold what the run of a batch left
abbrev pub BatchRan : (b r i a form l : List ℕ) → Type 0
BatchRan b r i a form l =
    run_batch form b (length r) (length i) (length a) (length l) ≡ ok (record { number = 0; records = r; items = i; answers = a; list = l })

pub record HasBatch (b r i a : List ℕ) : Type 0 where
  pub form : List ℕ
  pub list : List ℕ
  pub ran : BatchRan b r i a form list

-- the first k sheets were looked at
pub record SheetsLooked (form b : List ℕ) (k : ℕ) (r r' a a' : List ℕ) : Type 0 where
  pub reports : List Report
  pub runs : sheets_by (careful_sheet form) (take k (batch_sheets b)) ≡ ok reports
  pub records : HoldsParts 4 k sheet_record reports r r'
  pub answers : HoldsParts 8240 k (λ (x : Report). x.answers) reports a a'

pub record LookedTo (k : ℕ) (b r r' i a a' : List ℕ) : Type 0 where
  pub same : (form l : List ℕ) → BatchRan b r i a form l → SheetsLooked form b k r r' a a'

abbrev pub LookedBatch : (b r r' i a a' : List ℕ) → Type 0
LookedBatch b r r' i a a' = LookedTo (sheet_count b) b r r' i a a'
