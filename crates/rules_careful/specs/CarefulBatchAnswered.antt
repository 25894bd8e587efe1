-- What holds of a careful run of a batch: it is answered where the plain run is, and each record and part is the careful run's.
use Rattle.std.specs.Prelude.{List, ◌⊎◌, ◌≡◌, ℕ, length}
use Rattle.std.proofs.Math.Option.{some}
use Rattle.std.proofs.Math.ListN.{get_elem?}
use Rattle.rules.specs.Outcome.{Outcome, ok}
use Rattle.rules.specs.Run.{Report, run}
use Rattle.rules.specs.Batch.{sheet_count, batch_sheets, sheet_record, BatchReport, run_batch}
use Rattle.rules.specs.BatchAnswered.{slice_part, ZeroPast}
use Rattle.rules_careful.specs.Careful.{CarefulReport, careful}
use Rattle.rules_careful.specs.CarefulBatch.{batch_by, careful_batch}

-- ---- under any single call
-- record k and the parts of sheet k are this report
pub record PartsAre (k : ℕ) (r : Report) (x : BatchReport) : Type 0 where
  pub words : slice_part 4 k x.records ≡ sheet_record r
  pub items : slice_part 1792 k x.items ≡ r.items
  pub answers : slice_part 8240 k x.answers ≡ r.answers
  pub list : slice_part 192 k x.list ≡ r.list

-- a call that answers every sheet with parts of the single lengths
pub record Answers (call : List ℕ → Outcome Report) : Type 0 where
  pub report : List ℕ → Report
  pub answered : (s : List ℕ) → call s ≡ ok (report s)
  pub items : (s : List ℕ) → length (report s).items ≡ 1792
  pub answers : (s : List ℕ) → length (report s).answers ≡ 8240
  pub list : (s : List ℕ) → length (report s).list ≡ 192

-- then every batch is answered: the sheets one by one, past them 0; with 15 every slice is 0
pub record AnsweredBy (call : List ℕ → Outcome Report) (b : List ℕ) (nr ni na nl : ℕ) : Type 0 where
  pub answer : BatchReport
  pub answered : batch_by call b nr ni na nl ≡ ok answer
  pub number : (answer.number ≡ 0) ⊎ (answer.number ≡ 15)
  pub cleared : answer.number ≡ 15 → ZeroPast 0 nr ni na nl answer
  pub sheets : answer.number ≡ 0 → (k : ℕ) (s : List ℕ) → get_elem? (batch_sheets b) k ≡ some s → (r : Report) → call s ≡ ok r → PartsAre k r answer
  pub past : answer.number ≡ 0 → ZeroPast (sheet_count b) nr ni na nl answer

-- the plain batch is that of the plain run
abbrev pub PlainBy : Type 0
PlainBy = (form b : List ℕ) (nr ni na nl : ℕ) → run_batch form b nr ni na nl ≡ batch_by (λ s. run form s 1792 8240 192) b nr ni na nl

-- ---- under the careful run
-- Every batch is answered, and with the number of the plain run, so 15 exactly where that has it. Items and lists are its own too
pub record CarefulBatchAnswered (form b : List ℕ) (nr ni na nl : ℕ) : Type 0 where
  pub plain : BatchReport
  pub ran : run_batch form b nr ni na nl ≡ ok plain
  pub answer : BatchReport
  pub answered : careful_batch form b nr ni na nl ≡ ok answer
  pub number : (answer.number ≡ 0) ⊎ (answer.number ≡ 15)
  pub same : answer.number ≡ plain.number
  pub items : answer.items ≡ plain.items
  pub list : answer.list ≡ plain.list
  pub refused : plain.number ≡ 15 → answer ≡ plain
  pub cleared : answer.number ≡ 15 → ZeroPast 0 nr ni na nl answer
  pub sheets :
      answer.number ≡ 0
      → (k : ℕ) (s : List ℕ)
      → get_elem? (batch_sheets b) k ≡ some s
      → (x : CarefulReport) × (careful form s 1792 8240 192 ≡ ok x) × PartsAre k x.report answer
  pub past : answer.number ≡ 0 → ZeroPast (sheet_count b) nr ni na nl answer
