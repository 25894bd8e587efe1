-- The two have the same count. Assumes nothing.
-- cN is the place N before c.
use mathlib.Core.Path.{refl}
use Rattle.state_value.proofs.Given.{both_ready, picked_over}
use Rattle.state_value.proofs.pick_winner.Goals as goal

pub pick_winner-requires : goal.pick_winner-requires
pick_winner-requires c = both_ready _ c.requires.0 _ c.requires.1 c.requires.2 _ refl

pub returns-clause-picked : goal.returns-clause-picked
returns-clause-picked c = picked_over _ c.requires.0 _ c.requires.1 c.requires.2 _ _ refl c.pick_winner.ensures.picked
