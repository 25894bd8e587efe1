-- Invariant: the arguments from k on decide (`Plain`). Assumes nothing.
use Rattle.split_args.proofs.Plain.{Plain}
use Rattle.split_args.proofs.all_plain.Given as goal

abbrev pub invariant-loop-k : goal.invariant-loop-k
invariant-loop-k l = Plain l.sheet l.n l.k
