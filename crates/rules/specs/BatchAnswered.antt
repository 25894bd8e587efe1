-- What holds of a batch: every batch is answered, each record and part is the single call's, and no sheet changes what another gets.
use Rattle.std.specs.Prelude.{List, ◌⊎◌, ◌≡◌, ℕ, ◌+◌, ◌-◌, ◌*◌, ◌≤◌, ◌<◌, length, take, drop, replicate}
use Rattle.std.proofs.Math.Option.{some}
use Rattle.std.proofs.Math.ListN.{get_elem?}
use Rattle.wire.specs.Wire.{area_start, offset}
use Rattle.rules.specs.Outcome.{ok}
use Rattle.rules.specs.Run.{Report, run}
use Rattle.rules.specs.Batch.{sheet_count, batch_sheets, sheet_record, BatchReport, run_batch}

-- ---- which batches are run
-- the count, offsets that begin with 0, never fall and end with the batch
pub record BatchMade (b : List ℕ) : Type 0 where
  pub count : sheet_count b ≤ 32
  pub header : area_start 4 (sheet_count b) ≤ length b
  pub first : offset 4 b 0 ≡ 0
  pub rising : (k : ℕ) → k < sheet_count b → offset 4 b k ≤ offset 4 b (k + 1)
  pub last : area_start 4 (sheet_count b) + offset 4 b (sheet_count b) ≡ length b

-- no slice is shorter than the count times its single length
pub record Roomy (n nr ni na nl : ℕ) : Type 0 where
  pub records : 4 * n ≤ nr
  pub items : 1792 * n ≤ ni
  pub answers : 8240 * n ≤ na
  pub list : 192 * n ≤ nl

-- ---- what they leave
-- part k of a slice whose parts have w words
abbrev pub slice_part : ℕ → ℕ → List ℕ → List ℕ
slice_part w k l = take w (drop (w * k) l)

-- record k and the parts of sheet k are what the single call reports
pub record AsSingle (form s : List ℕ) (k : ℕ) (x : BatchReport) : Type 0 where
  pub report : Report
  pub runs : run form s 1792 8240 192 ≡ ok report
  pub words : slice_part 4 k x.records ≡ sheet_record report
  pub items : slice_part 1792 k x.items ≡ report.items
  pub answers : slice_part 8240 k x.answers ≡ report.answers
  pub list : slice_part 192 k x.list ≡ report.list

-- past the records and parts of n sheets all is 0; with n = 0 every slice is
pub record ZeroPast (n nr ni na nl : ℕ) (x : BatchReport) : Type 0 where
  pub records : drop (4 * n) x.records ≡ replicate (nr - 4 * n) 0
  pub items : drop (1792 * n) x.items ≡ replicate (ni - 1792 * n) 0
  pub answers : drop (8240 * n) x.answers ≡ replicate (na - 8240 * n) 0
  pub list : drop (192 * n) x.list ≡ replicate (nl - 192 * n) 0

-- Every batch is answered. 15 exactly if it is not well made or a slice is too short, whatever the form and the sheets are
pub record BatchAnswered (form b : List ℕ) (nr ni na nl : ℕ) : Type 0 where
  pub answer : BatchReport
  pub answered : run_batch form b nr ni na nl ≡ ok answer
  pub number : (answer.number ≡ 0) ⊎ (answer.number ≡ 15)
  pub good : answer.number ≡ 0 → BatchMade b × Roomy (sheet_count b) nr ni na nl
  pub damaged : answer.number ≡ 15 → BatchMade b → Roomy (sheet_count b) nr ni na nl → ⊥
  pub cleared : answer.number ≡ 15 → ZeroPast 0 nr ni na nl answer
  pub count : length (batch_sheets b) ≡ sheet_count b
  pub sheets : answer.number ≡ 0 → (k : ℕ) (s : List ℕ) → get_elem? (batch_sheets b) k ≡ some s → AsSingle form s k answer
  pub past : answer.number ≡ 0 → ZeroPast (sheet_count b) nr ni na nl answer

-- ---- isolation
pub record Agree (k : ℕ) (x y : BatchReport) : Type 0 where
  pub records : slice_part 4 k x.records ≡ slice_part 4 k y.records
  pub items : slice_part 1792 k x.items ≡ slice_part 1792 k y.items
  pub answers : slice_part 8240 k x.answers ≡ slice_part 8240 k y.answers
  pub list : slice_part 192 k x.list ≡ slice_part 192 k y.list

-- Two batches that agree on sheet k agree on record k and its parts, however their counts, slices and other sheets differ, if
-- both have the same form and neither gets 15
abbrev pub Isolated : Type 0
Isolated =
    (form b c : List ℕ) (nr ni na nl mr mi ma ml : ℕ) (x y : BatchReport)
    → run_batch form b nr ni na nl ≡ ok x
    → run_batch form c mr mi ma ml ≡ ok y
    → (x.number ≡ 15 → ⊥)
    → (y.number ≡ 15 → ⊥)
    → (k : ℕ) (s : List ℕ)
    → get_elem? (batch_sheets b) k ≡ some s
    → get_elem? (batch_sheets c) k ≡ some s
    → Agree k x y
