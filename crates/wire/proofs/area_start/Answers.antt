-- The sum and the product are parts of the result, which fits. Assumes nothing.
use mathlib.Core.Path.{refl}
use native.Mathlib.Omega.{arith}
use Rattle.wire.specs.Wire.{area_start}
use Rattle.wire.specs.Laws.{start_least}
use Rattle.wire.proofs.area_start.Goals as goal

pub overflow_add-result : goal.overflow_add-result
overflow_add-result c = omega (arith, start_least c.args.width c.args.count c.requires.0)

pub overflow_mul-result : goal.overflow_mul-result
unfolding area_start
overflow_mul-result c = omega arith

pub overflow_add-result-2 : goal.overflow_add-result-2
unfolding area_start
overflow_add-result-2 c = omega arith

pub returns : goal.returns
unfolding area_start
returns c = refl
