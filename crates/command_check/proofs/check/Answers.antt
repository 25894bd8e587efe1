use mathlib.Core.Bool.{not}
use mathlib.Core.Path.{ap}
use Rattle.command_check.proofs.Steps.{table_bad, has_commands}
use Rattle.command_check.proofs.check.Goals as goal

pub returns-then-not-table_good : goal.returns-then-not-table_good
returns-then-not-table_good c = rw c.from.ensures (table_bad _ _ c.table_good.ensures (ap not c.if-not-table_good.true))

pub check_forms-requires : goal.check_forms-requires
check_forms-requires c = search has_commands
