-- A leaf that no item has: its search finds nothing.
use mathlib.Core.Bool.{Bool, true, false, not}
use mathlib.Core.List.{List}
use mathlib.Core.Path.{◌≡◌, refl}
use Prim.Native.Nat.{ℕ}
use native.Mathlib.Nat.{le_refl}
use lib.ListN.{get_or}
use Rattle.rules.specs.Tree.{Named}
use Rattle.rules.specs.Take.{matches_arg}
use Rattle.state_marks.specs.declared.Numbers.{Numbers}
use Rattle.take_search.specs.Search.{Sought}
use Rattle.take_table.specs.Bits.{bit_at}
use Rattle.take_table.proofs.Absent.{absent_sought}
use Rattle.take.proofs.Laws.{flag_missing, arg_missing}
use Rattle.eval_params.specs.Leaves.{Leaf, Missing, leaf_refusal}
use Rattle.eval_params.proofs.Laws.{flag_refused, argument_missing}

pub absent_missing : (known : List ℕ) (node : ℕ) (absent : Bool) → absent ≡ not (bit_at (get_or known 0 0) node) → absent ≡ true
    → Missing known node
absent_missing known node absent e h = record {
  flag = λ area words m p mark names leaf n.
      let d = flag_missing mark area words m p leaf.state p.start p.end refl refl names p.end
      (nothing area words m p mark names false leaf) (le_refl p.end) in
      flag_refused mark area words m p m names leaf.named false (record { found = false; numbers = p }) d (leaf_refusal 20 0 p) refl refl refl n;
  argument = λ area words m p mark names adjacent leaf n b.
      let d = arg_missing mark area words m p leaf.state p.start p.end refl refl names adjacent p.end
      (nothing area words m p mark names adjacent leaf) (le_refl p.end) in
      argument_missing mark area words m p m names leaf.named b adjacent _ d (leaf_refusal 20 0 p) refl refl n;
}
  where
    nothing : (area words m : List ℕ) (p : Numbers) (mark : ℕ) (names : Named) (adjacent : Bool) → Leaf known area words m p node mark names adjacent
        → Sought area words (matches_arg names adjacent) m p.start p.end p.end
    nothing area words m p mark names adjacent leaf =
        absent_sought known node absent e h m p.start p.end leaf.state.fine.order area words (matches_arg names adjacent) leaf.says
