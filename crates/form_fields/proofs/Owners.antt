-- Which node has a node as a child, and which field has it in its tree.
use mathlib.Core.Path.{◌≡◌, refl, sym, ◌∙◌, ap}
use mathlib.Core.Bool.{Bool}
use mathlib.Core.List.{List, ◌∷◌}
use mathlib.Core.Option.{some, some-injective}
use Prim.Native.Nat.{ℕ, suc, ◌+◌, ◌≤◌, ◌<◌}
use native.Mathlib.Numerals.{add-one}
use native.Mathlib.Omega.{arith}
use lib.ListN.{get_elem?, drop, drop_of_length-le}
use borrow.Author.Tests.{eq-eqb, ne_eqb}
use Rattle.std.specs.Prelude.{if◌then◌else◌}
use Rattle.rules.specs.Base.{contains}
use Rattle.rules.specs.Form.{Node, node_count, field_count, read_form}
use Rattle.rules.specs.Accept.{children_of, top_from, top_of, index_of, field_of}
use Rattle.rules.proofs.Acceptance.{lookup_some}
use Rattle.rules.proofs.Places.{drop_below}
use Rattle.form_layout.proofs.Sizes.{nodes_length, fields_length}

-- ---- children

abbrev pub HasChild : List Node → ℕ → ℕ → Bool → Type 0
HasChild nodes m n r = (x : Node) → get_elem? nodes m ≡ some x → r ≡ contains (children_of x) n

module _ (nodes : List Node) (m n : ℕ) (y : Node) (here : get_elem? nodes m ≡ some y) where
  pub told : (r : Bool) → r ≡ contains (children_of y) n → HasChild nodes m n r
  told r e x h = e ∙ ap (λ (z : Node). contains (children_of z) n) (some-injective y x (sym here ∙ h))

-- ---- up to the top

-- from node m on, where `at` is reached
pub record TopFrom (b : List ℕ) (n m at : ℕ) : Type 0 where
  pub same : top_of (read_form b) n ≡ top_from m at (drop m (read_form b).nodes)

pub top_first : (b : List ℕ) (n : ℕ) → TopFrom b n 0 n
unfolding top_of
top_first b n = record { same = refl }

top_step : (m at : ℕ) (x : Node) (xs : List Node) (r : ℕ) → r ≡ (if contains (children_of x) at then m else at)
    → top_from m at (x ∷ xs) ≡ top_from (suc m) r xs
unfolding top_from
top_step m at x xs r e = ap (λ (k : ℕ). top_from (suc m) k xs) (sym e)

module _ (b : List ℕ) (n m at : ℕ) (t : TopFrom b n m at) (count : ℕ) (e : count ≡ node_count b) where
  pub top_next : m < count → (g : Bool) → HasChild (read_form b).nodes m at g → (r : ℕ) → r ≡ (if g then m else at) → TopFrom b n (m + 1) r
  top_next h g c r er =
      let nodes : List Node = (read_form b).nodes in
      let (x, here) = lookup_some nodes m (omega (arith, nodes_length b)) in
      let goes = top_step m at x (drop (suc m) nodes) r (er ∙ ap (λ (t : Bool). if t then m else at) (c x here)) in
      record { same = t.same ∙ ap (top_from m at) (drop_below nodes m x here) ∙ goes ∙ rw (add-one m) refl }

  pub top_last : count ≤ m → at ≡ top_of (read_form b) n
  unfolding top_from
  top_last h = sym (t.same ∙ rw (drop_of_length-le (read_form b).nodes {i = m} (omega (arith, nodes_length b))) refl)

-- ---- its field

-- of the fields from k on, where none before is this one
pub record FieldFrom (b : List ℕ) (top k : ℕ) : Type 0 where
  pub within : k ≤ field_count b
  pub same : index_of top (read_form b).fields ≡ k + index_of top (drop k (read_form b).fields)

pub field_first : (b : List ℕ) (top : ℕ) → FieldFrom b top 0
field_first b top = record { within = omega arith; same = omega arith }

module _ (b : List ℕ) (n top k : ℕ) (t : FieldFrom b top k) (et : top ≡ top_of (read_form b) n) (count : ℕ) (e : count ≡ field_count b) where
  module _ (x : ℕ) (here : get_elem? (read_form b).fields k ≡ some x) where
    pub field_found : x ≡ top → k ≡ field_of (read_form b) n
    unfolding field_of index_of
    field_found f =
        let z : top ≡ x = sym f in
        sym (rw (← et) (t.same ∙ rw (drop_below (read_form b).fields k x here, eq-eqb top x z) (omega arith)))

    pub field_next : (x ≡ top → ⊥) → k < count → FieldFrom b top (k + 1)
    unfolding index_of
    field_next other h = record {
      within = omega arith;
      same = t.same ∙ rw (drop_below (read_form b).fields k x here, ne_eqb top x (λ z. other (sym z)), add-one k) (omega arith);
    }

  pub field_last : count ≤ k → count ≡ field_of (read_form b) n
  unfolding field_of index_of
  field_last h =
      let all : count ≡ k = omega (arith, t.within) in
      all ∙ sym (rw (← et) (t.same ∙ rw (drop_of_length-le (read_form b).fields {i = k} (omega (arith, fields_length b))) (omega arith)))
