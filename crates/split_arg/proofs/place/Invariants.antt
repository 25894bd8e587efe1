-- Invariant: the place lies between `low` and `high`. Measure: how far they are apart. Assumes nothing.
use Prim.Native.Nat.{◌-◌}
use Rattle.split_arg.proofs.Order.{Between}
use Rattle.split_arg.proofs.place.Given as goal

abbrev pub invariant-loop-low : goal.invariant-loop-low
invariant-loop-low l = Between l.s l.letter l.low l.high

abbrev pub decreases-loop-low : goal.decreases-loop-low
decreases-loop-low l = l.high - l.low
