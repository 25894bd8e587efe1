-- From the start of the scope. Assumes nothing.
use mathlib.Core.Path.{refl}
use Rattle.take.proofs.Laws.{skip_none}
use Rattle.eval_params.proofs.eval_positional.Goals as goal

pub eval_positional_from-requires : goal.eval_positional_from-requires
eval_positional_from-requires c = (c.requires.0, c.requires.1, skip_none _ _ _ _ _ c.requires.1.fine _ refl)
