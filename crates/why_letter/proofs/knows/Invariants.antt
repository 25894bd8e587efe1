-- Invariant: what is left decides. Assumes nothing.
use mathlib.Core.Path.{◌≡◌}
use lib.ListN.{drop}
use Rattle.rules.specs.Base.{contains}
use Rattle.why_letter.proofs.knows.Given as goal

abbrev pub invariant-loop-known : goal.invariant-loop-known
invariant-loop-known l = contains l.s l.letter ≡ contains (drop l.known-index l.s) l.letter
