-- What the sheets of a batch leave in the parts of the slices.
use Rattle.std.specs.Prelude.{true, List, ◌++◌, ◌≡◌, ℕ, ◌*◌, length, take, drop}
use Rattle.rules.specs.Base.{concat_map}
use Rattle.rules.specs.Outcome.{ok}
use Rattle.rules.specs.Run.{Report, run}
use Rattle.rules.specs.Batch.{sheet_count, batch_good, batch_sheets, parts_fit, run_sheets, sheet_record}
use Rattle.run_fields.specs.declared.Reached.{Reached}
use Rattle.batch_parts.specs.Parts.{Replaced, reached_words}

-- ---- one sheet
-- the parts of one sheet hold what the single call leaves
pub record PartReported (form sheet : List ℕ) (k : ℕ) (i i' a a' l l' : List ℕ) (r : Reached) : Type 0 where
  pub report : Report
  pub runs : run form sheet 1792 8240 192 ≡ ok report
  pub words : reached_words r ≡ sheet_record report
  pub items : Replaced 1792 k report.items i i'
  pub answers : Replaced 8240 k report.answers a a'
  pub list : Replaced 192 k report.list l l'

-- ---- many
-- a batch that is well made, and room for its sheets
pub record BatchFits (b records items answers list : List ℕ) : Type 0 where
  pub good : batch_good b ≡ true
  pub room : parts_fit (sheet_count b) (length records) (length items) (length answers) (length list) ≡ true

-- the first k parts are the words of these reports; the rest is as it was
pub record HoldsParts (w k : ℕ) (words : Report → List ℕ) (rs : List Report) (o o' : List ℕ) : Type 0 where
  pub long : length (concat_map words rs) ≡ w * k
  pub same : o' ≡ concat_map words rs ++ drop (w * k) o

-- the first k sheets of a batch were run
pub record SheetsRan (form b : List ℕ) (k : ℕ) (r r' i i' a a' l l' : List ℕ) : Type 0 where
  pub reports : List Report
  pub runs : run_sheets form (take k (batch_sheets b)) ≡ ok reports
  pub records : HoldsParts 4 k sheet_record reports r r'
  pub items : HoldsParts 1792 k (λ (x : Report). x.items) reports i i'
  pub answers : HoldsParts 8240 k (λ (x : Report). x.answers) reports a a'
  pub list : HoldsParts 192 k (λ (x : Report). x.list) reports l l'
