-- The name lies in the area, and its type is tested. Assumes nothing.
use Rattle.form_names.proofs.Records.{name_long, name_outside, name_inside}
use Rattle.form_names.proofs.name_good.Goals as goal
use Rattle.form_names.proofs.name_good.Goals.{then-area-x-via-then-area-x, then-area-x-via-else-area-x+then-area-x-2}

pub returns-then-area-x : goal.returns-then-area-x
returns-then-area-x c = elim c.then-area-x.branch [
  | then-area-x-via-then-area-x w ↦ name_long _ _ w.if-area-x.true
  | then-area-x-via-else-area-x+then-area-x-2 w ↦ name_outside _ _ w.if-area-x.false w.if-area-x-2.true
]

pub returns : goal.returns
returns c = search name_inside
