-- Invariant: all letters before this byte are known. Assumes nothing.
use Prim.Native.Nat.{◌-◌}
use lib.ListN.{length}
use Rattle.split_arg.specs.Clusters.{meaning}
use Rattle.why_letter.proofs.Laws.{Seeking}
use Rattle.why_letter.proofs.first_unknown.Given as goal

abbrev pub invariant-loop-letter : goal.invariant-loop-letter
invariant-loop-letter l = Seeking (meaning l.letters) l.name l.at

abbrev pub decreases-loop-letter : goal.decreases-loop-letter
decreases-loop-letter l = length l.name - l.at
