-- Both are compared byte by byte. Assumes nothing.
use mathlib.Core.Path.{◌∙◌}
use Rattle.rules.specs.Split.{dash}
use Rattle.split_group.proofs.Groups.{pointwise_same}
use Rattle.split_group.proofs.is_marker.Goals as goal

pub returns : goal.returns
unfolding dash
returns c = let same = rw c.as_slice.ensures at c.eq.ensures in same ∙ pointwise_same _ _
