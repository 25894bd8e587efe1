-- Invariant: the nodes from k on are still to be counted. Assumes nothing.
use mathlib.Core.Path.{◌≡◌}
use lib.ListN.{drop}
use Rattle.rules.specs.Form.{read_form}
use Rattle.rules.specs.Base.{concat_map}
use Rattle.rules.specs.Accept.{children_of}
use Rattle.form_check.specs.Uses.{tally}
use Rattle.form_check.proofs.count_children.Given as goal

abbrev pub invariant-loop-k : goal.invariant-loop-k
invariant-loop-k l = tally l.initial.counts (concat_map children_of (read_form l.b).nodes) ≡ tally l.counts (concat_map children_of (drop l.k (read_form l.b).nodes))
