-- Document 02's batch: 0 to 32 sheets run with one form, a record and parts of the slices for each.
use Rattle.std.specs.Prelude.{Bool, ◌&&◌, List, [], ◌∷◌, map, ℕ, ◌*◌, leb, length}
use Rattle.std.proofs.Math.Option.{none}
use Rattle.std.specs.Prelude.{if◌then◌else◌}
use Rattle.wire.specs.Wire.{number_at, table_good, entry_of}
use Rattle.rules.specs.Base.{numbers, concat_map}
use Rattle.rules.specs.Outcome.{Outcome, ok, refused, fault, ◌>>=◌, refuse}
use Rattle.rules.specs.Codes.{place_code}
use Rattle.rules.specs.Run.{Report, padded, run}

-- ---- the batch: count n of sheets (0..32), n + 1 offsets of four bytes, then the sheets, which reach to the end
unfoldable pub sheet_count : List ℕ → ℕ
sheet_count b = number_at 2 b 0

unfoldable pub batch_good : List ℕ → Bool
batch_good b = leb (sheet_count b) 32 && table_good 4 (sheet_count b) b

unfoldable pub batch_sheets : List ℕ → List (List ℕ)
batch_sheets b = map (entry_of 4 (sheet_count b) b) (numbers (sheet_count b) 0)

-- ---- room for n records of four words, and for n parts of the single lengths
unfoldable pub parts_fit : (n nr ni na nl : ℕ) → Bool
parts_fit n nr ni na nl = leb (4 * n) nr && leb (1792 * n) ni && leb (8240 * n) na && leb (192 * n) nl

-- 15: the header, the count or a slice
unfoldable pub sheets_in : List ℕ → (nr ni na nl : ℕ) → Outcome (List (List ℕ))
sheets_in b nr ni na nl = if batch_good b && parts_fit (sheet_count b) nr ni na nl then ok (batch_sheets b) else refused (refuse 15 none)

-- ---- the single calls, one after the other; none of them stops the others
unfoldable pub run_sheets : List ℕ → List (List ℕ) → Outcome (List Report)
run_sheets form [] = ok []
run_sheets form (s ∷ ss) = run form s 1792 8240 192 >>= λ r. run_sheets form ss >>= λ rs. ok (r ∷ rs)

-- a record: number, place plus 1 or 0, tries, count of answer words
unfoldable pub sheet_record : Report → List ℕ
sheet_record r = r.number ∷ place_code r.place ∷ r.tries ∷ length r.words ∷ []

-- ---- what is reported: 0 or 15, and what the four slices hold
pub record BatchReport : Type 0 where
  pub number : ℕ
  pub records : List ℕ
  pub items : List ℕ
  pub answers : List ℕ
  pub list : List ℕ

-- records and parts one after the other; past them all is 0
unfoldable pub batch_report : (number nr ni na nl : ℕ) → List Report → BatchReport
batch_report number nr ni na nl rs = record {
  number = number;
  records = padded nr (concat_map sheet_record rs);
  items = padded ni (concat_map (λ (r : Report). r.items) rs);
  answers = padded na (concat_map (λ (r : Report). r.answers) rs);
  list = padded nl (concat_map (λ (r : Report). r.list) rs);
}

-- form bytes, batch bytes, and the lengths of the slices of records, items, answers and lists. 15 leaves every slice 0
unfoldable pub run_batch : (form batch : List ℕ) (nr ni na nl : ℕ) → Outcome BatchReport
run_batch form b nr ni na nl = elim (sheets_in b nr ni na nl) [
  | ok ss ↦ run_sheets form ss >>= λ rs. ok (batch_report 0 nr ni na nl rs)
  | refused e ↦ ok (batch_report e.number nr ni na nl [])
  | fault x ↦ fault x
]
