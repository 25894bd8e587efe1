use mathlib.Core.Path.{◌∙◌}
use Rattle.command_check.proofs.Steps.{offsets_bad, offsets_true, offsets_right}
use Rattle.command_check.proofs.table_good.Goals as goal

pub entries_good-requires : goal.entries_good-requires
entries_good-requires c = search offsets_true

pub returns-then-offsets_good : goal.returns-then-offsets_good
returns-then-offsets_good c = search offsets_right

pub returns-else-offsets_good : goal.returns-else-offsets_good
returns-else-offsets_good c = c.if-offsets_good.false ∙ offsets_bad _ _ c.offsets_good.ensures c.if-offsets_good.false
