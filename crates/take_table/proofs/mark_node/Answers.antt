-- A node of another kind names nothing. Assumes nothing.
use mathlib.Core.Path.{refl}
use Rattle.form_layout.proofs.KindNumbers.{either, not_kind}
use Rattle.take_table.proofs.Owners.{unmarked, marked}
use Rattle.take_table.proofs.mark_node.Goals as goal

pub returns-in-Flag : goal.returns-in-Flag
returns-in-Flag c = marked _ _ _ _ (either _ _ _ c.in-Flag.is) _ c.only.ensures _ c.names_end.ensures _ c.mark.ensures

pub returns-in_default : goal.returns-in_default
returns-in_default c = unmarked _ _ _ _ (not_kind _ 1 refl c.in_default.not-Flag) (not_kind _ 2 refl c.in_default.not-Argument)
