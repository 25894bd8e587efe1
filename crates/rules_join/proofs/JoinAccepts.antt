-- The join of two accepted forms passes the form check, if it is in all limits; its letters and its mark are those of both.
use mathlib.Core.Bool.{◌&&◌}
use mathlib.Core.List.{List, [], ◌∷◌, map}
use mathlib.Core.Path.{◌≡◌, refl, sym, subst}
use Prim.Native.Nat.{ℕ, ◌+◌, ◌≤◌}
use native.Mathlib.Omega.{arith}
use lib.ListN.{length, length-append}
use Rattle.rules.specs.Form.{Node, Form, portable}
use Rattle.rules.specs.Tree.{Tree}
use Rattle.rules.specs.Accept.{Accepted, accepted, check_form, letters_of}
use Rattle.rules.specs.Encode.{encode_form}
use Rattle.rules.specs.Demands.{All, Bytes}
use Rattle.rules.proofs.Acceptance.{All-append, All-map, Passed, accepted_length, accepted_passed}
use Rattle.rules.proofs.Formats.{NodeSmall, InLimits, read_within}
use Rattle.rules_join.specs.Join.{Moves, moves_behind, move_node, move_nodes, join_by, join_forms, letters_of_both}
use Rattle.rules_join.specs.JoinAnswered.{joined_accepted, LimitsKept}
use Rattle.rules_join.proofs.NameJoin.{names_joined, portable_joined}
use Rattle.rules_join.proofs.TreesJoin.{trees_joined, fields_joined}
use Rattle.rules_join.proofs.UseJoin.{trees_long, nodes_count, once_joined}
use Rattle.rules_join.proofs.LetterJoin.{letters_joined}
use Rattle.rules_join.proofs.PassedLaws.{Bounds, passed_limits, passed_accepted}

-- ---- an accepted form, as it is kept
module _ (x : List ℕ) (a : Accepted) (e : check_form x ≡ accepted a) where
  pub form_passed : Passed a.form a
  form_passed = let p = accepted_passed x a e in subst (λ (f : Form). Passed f a) (sym p.form) p

  pub form_within : Bytes x → InLimits a.form
  form_within small = subst InLimits (sym (accepted_passed x a e).form) (read_within x small (accepted_length x a e))

-- a moved node has the bounds that it had
bounds_moved : (d : Moves) (ts : List Tree) (xs : List Node) → All Bounds xs → All Bounds (move_nodes d ts xs)
unfolding move_nodes move_node
bounds_moved d [] xs w = tt
bounds_moved d (t ∷ ts) [] w = tt
bounds_moved d (t ∷ ts) (x ∷ xs) w = (record { lo = w.0.lo; hi = w.0.hi }, bounds_moved d ts xs w.1)

all_bounds : (xs : List Node) → All NodeSmall xs → All Bounds xs
all_bounds = All-map NodeSmall Bounds (λ x s. record { lo = s.lo; hi = s.hi })

module _ (a b : Accepted) (p : Passed a.form a) (q : Passed b.form b) where
  passed_joined : Passed (join_forms a b) (joined_accepted a b)
  unfolding joined_accepted
  passed_joined = record {
    form = refl;
    names = names_joined a b p.names q.names;
    trees = trees_joined a b p.names p.trees q.trees;
    fields = fields_joined a b (trees_long a.form a p) p.fields q.fields;
    once = once_joined a b p q;
  }

  bounds_joined : InLimits a.form → InLimits b.form → All Bounds (join_forms a b).nodes
  unfolding join_forms join_by
  bounds_joined f g =
      let moves = moves_behind a.form in
      All-append Bounds a.form.nodes (move_nodes moves b.trees b.form.nodes)
      (all_bounds a.form.nodes f.node_numbers)
      (bounds_moved moves b.trees b.form.nodes (all_bounds b.form.nodes g.node_numbers))

  fields_some : InLimits a.form → 1 ≤ length (join_forms a b).fields
  unfolding join_forms join_by
  fields_some f = omega (arith, f.fields.0, length-append a.form.fields (map (λ k. (moves_behind a.form).nodes + k) b.form.fields))

  within_joined : InLimits a.form → InLimits b.form → LimitsKept (join_forms a b) → InLimits (join_forms a b)
  within_joined f g h =
      let count = nodes_count a b p q in
      passed_limits (join_forms a b) (joined_accepted a b) passed_joined h (omega (arith, f.nodes.0)) (fields_some f) (bounds_joined f g)

-- ---- two forms of bytes
module _ (x y : List ℕ) (a b : Accepted) (e : check_form x ≡ accepted a) (g : check_form y ≡ accepted b) where
  abbrev first : Passed a.form a
  first = form_passed x a e

  abbrev second : Passed b.form b
  second = form_passed y b g

  pub join_accepts : Bytes x → Bytes y → LimitsKept (join_forms a b) → check_form (encode_form (join_forms a b)) ≡ accepted (joined_accepted a b)
  join_accepts s t h =
      passed_accepted (join_forms a b) (joined_accepted a b) (passed_joined a b first second)
      (within_joined a b first second (form_within x a e s) (form_within y b g t) h)

  pub join_letters : letters_of (join_forms a b) ≡ letters_of_both a.form b.form
  join_letters = letters_joined a b first second

  pub join_portable : portable (join_forms a b) ≡ (portable a.form && portable b.form)
  join_portable = portable_joined a b first.names
