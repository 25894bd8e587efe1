-- A number of two bytes is below 65536, so the sum fits; a number of four bytes is two of two. Assumes nothing.
use Prim.Native.Nat.{◌+◌}
use native.Mathlib.Omega.{arith}
use Rattle.wire.specs.Laws.{number_bound, number_split}
use Rattle.wire.proofs.u32_at.Goals as goal

pub overflow_mul-result : goal.overflow_mul-result
overflow_mul-result c = omega (arith, number_bound 2 c.args.b.now (c.args.i + 2) (λ k. omega (arith, c.type_inv.b k)))

pub overflow_add-result : goal.overflow_add-result
overflow_add-result c =
    omega (
      arith,
      number_bound 2 c.args.b.now c.args.i (λ k. omega (arith, c.type_inv.b k)),
      number_bound 2 c.args.b.now
          (c.args.i + 2) (λ k. omega (arith, c.type_inv.b k)),
    )

pub returns : goal.returns
returns c = omega (arith, number_split 2 2 c.args.b.now c.args.i (omega arith))
