use Prim.Native.Nat.{◌+◌, ◌-◌, ◌/◌}
use native.Mathlib.Omega.{arith}
use Rattle.split_arg.proofs.Order.{between_first, upper_half, lower_half, between_last}
use Rattle.split_arg.proofs.place.Goals as goal

pub loop-low-init : goal.loop-low-init
loop-low-init c = between_first _ _

pub loop-low-preserved-then-s-middle : goal.loop-low-preserved-then-s-middle
loop-low-preserved-then-s-middle c = upper_half _ _ _ _ c.requires c.loop-low.invariant (c.loop-low.low + (c.loop-low.high - c.loop-low.low) / 2) (omega arith) (omega arith) (omega arith)

pub loop-low-preserved : goal.loop-low-preserved
loop-low-preserved c = lower_half _ _ _ _ c.requires c.loop-low.invariant (c.loop-low.low + (c.loop-low.high - c.loop-low.low) / 2) (omega arith) (omega arith) (omega arith)

pub returns : goal.returns
returns c = search between_last
