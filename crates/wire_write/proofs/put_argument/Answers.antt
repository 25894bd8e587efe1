-- The offset lies before the area, and the bytes in it. Assumes nothing.
use mathlib.Core.Path.{refl}
use mathlib.Core.Logic.{inl}
use native.Mathlib.Omega.{arith}
use Rattle.wire_write.proofs.Sheets.{offset_fits, argument_put}
use Rattle.wire_write.proofs.put_argument.Goals as goal

pub put_u16-requires : goal.put_u16-requires
put_u16-requires c = search offset_fits

pub area_start-requires : goal.area_start-requires
area_start-requires c = (inl refl, omega arith)

pub returns : goal.returns
returns c = search argument_put
