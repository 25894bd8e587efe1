-- Invariant: the sheets so far were looked at. Assumes nothing.
use mathlib.Core.Path.{◌≡◌}
use lib.ListN.{length}
use Rattle.rules.specs.Batch.{sheet_count}
use Rattle.careful_batch.specs.Looked.{LookedTo}
use Rattle.careful_batch.proofs.look_sheets.Given as goal

abbrev pub invariant-loop-k : goal.invariant-loop-k
invariant-loop-k l =
    (l.k-end ≡ sheet_count l.batch) × (length l.records ≡ length l.initial.records) × (length l.answers ≡ length l.initial.answers)
    × LookedTo l.k l.batch l.initial.records l.records l.items l.initial.answers l.answers
