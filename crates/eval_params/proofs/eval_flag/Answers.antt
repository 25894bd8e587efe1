-- From the start of the scope. Assumes nothing.
use mathlib.Core.Path.{refl}
use Rattle.take.proofs.Laws.{skip_none}
use Rattle.eval_params.proofs.eval_flag.Goals as goal

pub eval_flag_from-requires : goal.eval_flag_from-requires
eval_flag_from-requires c = (c.requires.0, c.requires.1, c.requires.2, c.requires.0.order)

pub returns : goal.returns
returns c area words names leaf = c.eval_flag_from.ensures area words names leaf (skip_none _ _ _ _ _ leaf.state.fine _ refl)
