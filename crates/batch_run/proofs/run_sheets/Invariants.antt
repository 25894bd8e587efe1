use mathlib.Core.Path.{◌≡◌}
use Rattle.rules.specs.Batch.{sheet_count}
use Rattle.batch_run.specs.Sheets.{SheetsRan}
use Rattle.batch_run.proofs.Parts.{LengthsKept}
use Rattle.batch_run.proofs.run_sheets.Given as goal

abbrev pub invariant-loop-k : goal.invariant-loop-k
invariant-loop-k l =
    (l.k-end ≡ sheet_count l.batch) × LengthsKept l.initial.records l.records l.initial.items l.items l.initial.answers l.answers l.initial.list l.list
    × SheetsRan l.form l.batch l.k l.initial.records l.records l.initial.items l.items l.initial.answers l.answers l.initial.list l.list
