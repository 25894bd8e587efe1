-- Invariant: the letters passed are flags', and what is left decides. Measure: the bytes left. Assumes nothing.
use Prim.Native.Nat.{◌-◌}
use lib.ListN.{length}
use Rattle.split_arg.specs.Clusters.{meaning}
use Rattle.split_arg.proofs.LookUp.{Looked}
use Rattle.split_arg.proofs.look_up.Given as goal

abbrev pub invariant-loop-letter : goal.invariant-loop-letter
invariant-loop-letter l = Looked (meaning l.letters) l.name l.at l.before

abbrev pub decreases-loop-letter : goal.decreases-loop-letter
decreases-loop-letter l = length l.name - l.at
