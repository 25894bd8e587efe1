-- Invariant: what is still to be tested gives with what was what the whole gives. Assumes nothing.
use mathlib.Core.Bool.{◌&&◌}
use mathlib.Core.Path.{◌≡◌}
use lib.ListN.{drop}
use Rattle.rules.specs.Tree.{zeros}
use Rattle.call_table.proofs.all_zero.Given as goal

abbrev pub invariant-loop-word : goal.invariant-loop-word
invariant-loop-word l = zeros l.words ≡ (l.zero && zeros (drop l.word-index l.words))
