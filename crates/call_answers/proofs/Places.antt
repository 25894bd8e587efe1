-- The place of a form's fault is small, so that a call can tell it plus 1.
use mathlib.Core.Bool.{Bool, true, false}
use mathlib.Core.List.{List}
use mathlib.Core.Option.{Option}
use mathlib.Core.Path.{◌≡◌, refl, ap, ◌∙◌}
use Prim.Native.Nat.{ℕ, suc, ◌≤◌, ◌<◌}
use native.Mathlib.Omega.{arith}
use lib.Dec.{leb}
use lib.ListN.{length, length-map}
use borrow.Author.Tests.{leb-true, leb-false}
use Rattle.rules.specs.Base.{numbers}
use Rattle.rules.specs.Accept.{Checked, accepted, refused_at, Accepted, check_form}
use Rattle.rules.specs.Answered.{FormFault, bad_counts, bad_name, bad_node, bad_field, bad_use}
use Rattle.rules.specs.Codes.{place_code, check_code}
use Rattle.rules.specs.Form.{node_count, name_count, read_form}
use Rattle.rules.specs.WellMade.{NodesMade}
use Rattle.rules.specs.declared.Refused.{Refused}
use Rattle.rules.proofs.Acceptance.{numbers_length, lookup_inside}
use Rattle.rules.proofs.WellMadeLaws.{check_fault}

module _ (b : List ℕ) where
  nodes_long : length (read_form b).nodes ≡ node_count b
  unfolding read_form
  nodes_long = length-map (numbers (node_count b) 0) _ ∙ numbers_length (node_count b) 0

  names_long : length (read_form b).names ≡ name_count b
  unfolding read_form
  names_long = length-map (numbers (name_count b) 0) _ ∙ numbers_length (name_count b) 0

  -- past the last node, one more is made if all before it are
  last_made : (k : ℕ) → node_count b ≤ k → NodesMade (read_form b) k → NodesMade (read_form b) (suc k)
  last_made k h m = record {
    kind = m.kind;
    repeats = m.repeats;
    each = λ j x l e. let at = lookup_inside (read_form b).nodes j x e in m.each j x (omega (arith, at, nodes_long)) e;
  }

  node_below : (k : ℕ) → NodesMade (read_form b) k → (NodesMade (read_form b) (suc k) → ⊥) → k < node_count b
  node_below k m n = go (leb (node_count b) k) refl
    where
      go : (t : Bool) → leb (node_count b) k ≡ t → k < node_count b
      go true e = absurd (n (last_made k (leb-true (node_count b) k e) m))
      go false e = leb-false (node_count b) k e

  fault_small : (n : ℕ) (k : Option ℕ) → FormFault b n k → place_code k ≤ 128
  fault_small n k (bad_counts c) = omega arith
  fault_small n k (bad_name i m c a h d) = omega (arith, c.names, lookup_inside (read_form b).names i m h, names_long)
  fault_small n k (bad_node i c a l d) = omega (arith, c.nodes.1, node_below i l d)
  fault_small n k (bad_field i j c a l h m) = omega arith
  fault_small n k (bad_use i c a l h m o d) = omega (arith, c.nodes.1)

  pub check_small : (r : Refused) → r ≡ check_code (check_form b) → r.place < 4294967296
  check_small r e = go (check_form b) refl
    where
      go : (c : Checked Accepted) → check_form b ≡ c → r.place < 4294967296
      go (accepted a) h = omega (arith, ap (λ (x : Refused). x.place) (e ∙ ap check_code h))
      go (refused_at n k) h = omega (arith, ap (λ (x : Refused). x.place) (e ∙ ap check_code h), fault_small n k (check_fault b n k h))
