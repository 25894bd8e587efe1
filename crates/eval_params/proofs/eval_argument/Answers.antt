-- From the start of the scope. Assumes nothing.
use mathlib.Core.Path.{refl}
use Rattle.take.proofs.Laws.{skip_none}
use Rattle.eval_params.proofs.eval_argument.Goals as goal

pub eval_argument_from-requires : goal.eval_argument_from-requires
eval_argument_from-requires c = (c.requires.0, c.requires.1, (c.requires.2.0, c.requires.2.1, c.requires.2.2, skip_none _ _ _ _ _ c.requires.2.2.state.fine _ refl))

pub returns : goal.returns
returns c names adjacent leaf = c.eval_argument_from.ensures names adjacent leaf (skip_none _ _ _ _ _ leaf.state.fine _ refl)
