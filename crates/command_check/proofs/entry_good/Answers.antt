use mathlib.Core.Path.{sym, ◌∙◌}
use Rattle.command_check.proofs.Steps.{entry_unfit, entry_fits, entry_misnamed, entry_named}
use Rattle.command_check.proofs.entry_good.Goals as goal
use Rattle.command_check.proofs.entry_good.Goals.{then-fits, else-fits}

pub names_good-requires : goal.names_good-requires
names_good-requires c = search entry_fits

pub has_long-requires : goal.has_long-requires
has_long-requires c = elim c.if-fits.branch [
  | then-fits w ↦ entry_fits _ _ c.fits.ensures w.if-fits.true
  | else-fits w ↦ absurd cc
]

pub returns-then-names_good : goal.returns-then-names_good
returns-then-names_good c = elim c.if-fits.branch [
  | then-fits w ↦ entry_named _ _ c.fits.ensures w.if-fits.true _ w.names_good.ensures (sym w.value-is ∙ c.if-names_good.true) _ c.has_long.ensures
  | else-fits w ↦ absurd cc
]

pub returns-else-names_good : goal.returns-else-names_good
returns-else-names_good c = elim c.if-fits.branch [
  | then-fits w ↦ c.if-names_good.false ∙ entry_misnamed _ _ c.fits.ensures w.if-fits.true _ w.names_good.ensures (sym w.value-is ∙ c.if-names_good.false)
  | else-fits w ↦ c.if-names_good.false ∙ entry_unfit _ _ c.fits.ensures w.if-fits.false
]
