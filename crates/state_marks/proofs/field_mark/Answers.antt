-- The mark fits in 16 bits. Assumes nothing.
use mathlib.Core.Path.{refl}
use Rattle.state_marks.proofs.Mark.{field_told}
use Rattle.state_marks.proofs.field_mark.Goals as goal

pub returns : goal.returns
returns c = field_told _ _ refl
