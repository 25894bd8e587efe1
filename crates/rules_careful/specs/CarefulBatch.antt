-- A careful run of a batch. It is ours, as the careful run is: as `run_batch`, but each sheet gets what the careful run reports on it.
use Rattle.std.specs.Prelude.{List, [], ◌∷◌, ℕ}
use Rattle.rules.specs.Outcome.{Outcome, ok, refused, fault, ◌>>=◌}
use Rattle.rules.specs.Run.{Report}
use Rattle.rules.specs.Batch.{sheets_in, BatchReport, batch_report}
use Rattle.rules_careful.specs.Careful.{careful}

-- ---- a batch under any single call
-- the single calls, one after the other; none of them stops the others
unfoldable pub sheets_by : (List ℕ → Outcome Report) → List (List ℕ) → Outcome (List Report)
sheets_by call [] = ok []
sheets_by call (s ∷ ss) = call s >>= λ r. sheets_by call ss >>= λ rs. ok (r ∷ rs)

-- batch bytes, and the lengths of the slices of records, items, answers and lists. 15 leaves every slice 0
unfoldable pub batch_by : (List ℕ → Outcome Report) → (batch : List ℕ) (nr ni na nl : ℕ) → Outcome BatchReport
batch_by call b nr ni na nl = elim (sheets_in b nr ni na nl) [
  | ok ss ↦ sheets_by call ss >>= λ rs. ok (batch_report 0 nr ni na nl rs)
  | refused e ↦ ok (batch_report e.number nr ni na nl [])
  | fault x ↦ fault x
]

-- ---- under the careful run
-- What it reports on a sheet, with the single lengths. A record of four words has no room for the letter of 50: who wants it
-- calls the careful run on that sheet
unfoldable pub careful_sheet : (form sheet : List ℕ) → Outcome Report
careful_sheet form s = careful form s 1792 8240 192 >>= λ x. ok x.report

unfoldable pub careful_batch : (form batch : List ℕ) (nr ni na nl : ℕ) → Outcome BatchReport
careful_batch form b nr ni na nl = batch_by (careful_sheet form) b nr ni na nl
