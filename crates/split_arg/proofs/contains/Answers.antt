-- By the length of the list. Assumes nothing.
use mathlib.Core.Path.{◌∙◌}
use native.Mathlib.Omega.{arith}
use Rattle.split_arg.proofs.Order.{found_or_none}
use Rattle.split_arg.proofs.contains.Goals as goal

pub returns : goal.returns
returns c = c.is_ok.ensures.value ∙ found_or_none _ _ _ (c.requires.order (omega arith)) c.binary_search.ensures.position
