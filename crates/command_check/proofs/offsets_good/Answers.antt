-- One test after the other. Assumes nothing.
use mathlib.Core.Logic.{inr}
use mathlib.Core.Path.{refl, ◌∙◌}
use native.Mathlib.Omega.{arith}
use borrow.Author.Tests.{lt-leb}
use Rattle.command_check.proofs.Steps.{table_short, no_entries, many_entries, some_entries}
use Rattle.command_check.proofs.offsets_good.Goals as goal
use Rattle.command_check.proofs.offsets_good.Goals.{then-n-ge1, else-n-ge1}

pub returns-then-table-lt-COUNT_BYTES : goal.returns-then-table-lt-COUNT_BYTES
returns-then-table-lt-COUNT_BYTES c = search table_short

pub table_good-requires : goal.table_good-requires
table_good-requires c = (inr refl, omega arith)

pub returns-then-n-le-ENTRIES : goal.returns-then-n-le-ENTRIES
returns-then-n-le-ENTRIES c = some_entries _ _ c.entry_count-n.ensures c.if-n-le-ENTRIES.true.0 c.if-n-le-ENTRIES.true.1 _ c.table_good.ensures

pub returns-else-n-le-ENTRIES : goal.returns-else-n-le-ENTRIES
returns-else-n-le-ENTRIES c = elim c.if-n-ge1.branch [
  | then-n-ge1 w ↦ w.t-6-is ∙ lt-leb _ 32 (omega arith) ∙ many_entries _ _ c.entry_count-n.ensures (omega arith)
  | else-n-ge1 w ↦ w.t-6-is ∙ lt-leb 1 _ (omega arith) ∙ no_entries _ _ c.entry_count-n.ensures w.if-n-ge1.false
]
