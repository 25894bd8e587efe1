-- The first two bytes say which of the two it is. Assumes nothing.
use Rattle.split_arg.proofs.Names.{too_short, no_dash_lem, two_dashes, one_dash}
use Rattle.split_arg.proofs.split_os_argument.Goals as goal
use Rattle.split_arg.proofs.split_os_argument.Goals.{then-os-lt2-via-then-os-lt2, then-os-lt2-via-else-os-lt2+then-os-ne45}

pub returns-then-os-lt2 : goal.returns-then-os-lt2
returns-then-os-lt2 c = elim c.then-os-lt2.branch [
  | then-os-lt2-via-then-os-lt2 w ↦ too_short _ w.if-os-lt2.true
  | then-os-lt2-via-else-os-lt2+then-os-ne45 w ↦ no_dash_lem _ w.if-os-lt2.false w.if-os-ne45.true
]

pub returns-then-os-eq45 : goal.returns-then-os-eq45
returns-then-os-eq45 c = two_dashes _ _ c.if-os-lt2.false c.if-os-ne45.false c.if-os-eq45.true c.split_long.ensures

pub returns : goal.returns
returns c = one_dash _ _ c.if-os-lt2.false c.if-os-ne45.false c.if-os-eq45.false c.split_short.ensures
