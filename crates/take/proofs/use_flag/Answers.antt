-- By where the search ended. Assumes nothing.
use mathlib.Core.Path.{refl}
use Rattle.take.proofs.Laws.{flag_missing, flag_found}
use Rattle.take.proofs.use_flag.Goals as goal

pub returns-then-p-place : goal.returns-then-p-place
returns-then-p-place c area words n g sought = flag_missing _ area words _ _ g _ _ refl refl n _ sought c.if-p-place.true

pub returns : goal.returns
returns c area words n g sought = flag_found _ area words _ _ g _ _ refl refl n _ sought c.if-p-place.false _ _ c.remove-left.ensures
