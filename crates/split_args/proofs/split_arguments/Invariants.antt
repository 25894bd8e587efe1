-- Invariant: the first k arguments are split and written, and what is left decides (`Lines`). Assumes nothing.
use mathlib.Core.Path.{◌≡◌}
use Rattle.rules.specs.Sheet.{argument_count}
use Rattle.split_arg.specs.Clusters.{meaning}
use Rattle.split_args.proofs.Lines.{SplitSoFar}
use Rattle.split_args.proofs.split_arguments.Given as goal

abbrev pub invariant-loop-k : goal.invariant-loop-k
invariant-loop-k l = SplitSoFar (meaning l.letters) l.sheet l.initial.items l.items l.k l.at l.marker × (l.n ≡ argument_count l.sheet)
