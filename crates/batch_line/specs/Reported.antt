-- What a run of one sheet leaves: the report of the single call, but for its state.
use Rattle.std.specs.Prelude.{List, ◌≡◌, ℕ, length}
use Rattle.rules.specs.Outcome.{ok}
use Rattle.rules.specs.Run.{Report, run}
use Rattle.rules.specs.Batch.{sheet_record}
use Rattle.run_fields.specs.declared.Reached.{Reached}
use Rattle.batch_parts.specs.Parts.{reached_words}

-- the slices hold what the single call leaves in slices of their lengths
pub record SheetReported (form sheet i a l : List ℕ) (r : Reached) : Type 0 where
  pub report : Report
  pub runs : run form sheet (length i) (length a) (length l) ≡ ok report
  pub words : reached_words r ≡ sheet_record report
  pub items : i ≡ report.items
  pub answers : a ≡ report.answers
  pub list : l ≡ report.list
