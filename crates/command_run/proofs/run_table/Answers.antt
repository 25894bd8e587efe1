use mathlib.Core.Path.{refl}
use Rattle.command_run.proofs.Reports.{can_take, commands_there, unmatched, form_begins, matched, entry_next}
use Rattle.command_run.proofs.run_table.Goals as goal

pub try_names-tried-requires : goal.try_names-tried-requires
try_names-tried-requires c = (commands_there _ _ _ _ _ _ _ c.requires, c.requires.room.checked, can_take _ _ _ _ _ _ _ c.requires)

pub returns-then-tried-eq0 : goal.returns-then-tried-eq0
returns-then-tried-eq0 c = unmatched _ _ _ _ _ _ _ c.requires _ _ c.try_names-tried.ensures c.if-tried-eq0.true _ (rw c.number.ensures at c.refused.ensures) _ c.told.ensures

pub run_chosen-ran-requires : goal.run_chosen-ran-requires
run_chosen-ran-requires c = form_begins _ _ _ _ _ _ _ c.requires _ _ c.try_names-tried.ensures _ (entry_next _ _ c.if-tried-eq0.false refl)

pub returns : goal.returns
returns c =
    matched _ _ _ _ _ _ _ c.requires _ _ c.try_names-tried.ensures _ (entry_next _ _ c.if-tried-eq0.false refl) _ _ _ _ c.run_chosen-ran.ensures _
    c.told-2.ensures
