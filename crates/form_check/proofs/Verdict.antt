-- The verdict: each way out of the check against the rules' order of refusals.
use mathlib.Core.Bool.{Bool, true, false, not}
use mathlib.Core.List.{List, [], ◌∷◌, ◌++◌, map}
use mathlib.Core.Option.{Option, some, none}
use mathlib.Core.Path.{◌≡◌, refl, sym, ◌∙◌, ap, ap₂}
use Prim.Native.Nat.{ℕ, suc, ◌+◌, ◌*◌, ◌≤◌, ◌<◌}
use native.Mathlib.Nat.{zero-add}
use native.Mathlib.Numerals.{add-one}
use native.Mathlib.Omega.{arith}
use lib.ListN.{length, drop, replicate}
use borrow.Author.Tests.{not-true, not-false}
use Rattle.std.specs.Prelude.{if◌then◌else◌}
use Rattle.rules.specs.Base.{numbers, concat_map, first_fault}
use Rattle.rules.specs.Codes.{check_code}
use Rattle.rules.specs.Form.{Node, Form, node_count, name_count, area_at, names_at, read_form, read_name, name_good}
use Rattle.rules.specs.Tree.{Tree, tree_of}
use Rattle.rules.specs.Accept.{Checked, accepted, refused_at, length_good, trees_from, children_of, uses, trees_at, check_use, check_records, check_form}
use Rattle.rules.specs.declared.Refused.{Refused}
use Rattle.rules.proofs.Acceptance.{trees_length}
use Rattle.form_names.specs.Names.{names_in, fault_or}
use Rattle.form_layout.proofs.Sizes.{from, from_drop, record_drop, nodes_length, names_length}
use Rattle.form_check.specs.Uses.{tally, FieldsCounted, records_fault}
use Rattle.form_check.proofs.Counting.{once_in, uses_tally, uses_same, trees_none, trees_some}

abbrev pub said : ℕ → ℕ → Refused
said n k = record { number = n; place = k }

-- ---- uses
module _ (b : List ℕ) (ts : List Tree) (long : length ts ≡ node_count b) (n : ℕ) (en : n ≡ node_count b) (c₀ c : List ℕ) (g : Bool)
    (s : FieldsCounted n (read_form b).fields c₀ c g) (r : Refused) where
  trees : length ts ≡ n
  trees = long ∙ sym en

  pub uses_outside : not g ≡ true → r ≡ said 4 0 → r ≡ check_code (check_use (read_form b) ts)
  unfolding check_use
  uses_outside z e = e ∙ rw (trees_none ts n trees (read_form b).fields (sym s.nodes ∙ not-true g z), check_use)

  module _ (z : not g ≡ false) (few : node_count b ≤ 64) (e₀ : c₀ ≡ replicate 64 0) (d : List ℕ)
      (ed : d ≡ tally c (concat_map children_of (read_form b).nodes)) where
    count : length (read_form b).nodes ≡ n
    count = nodes_length b ∙ sym en

    used : d ≡ tally (replicate 64 0) (uses (read_form b))
    used = uses_tally (read_form b) c₀ c d e₀ (s.counts (not-false g z)) ed

    some_trees : (us : List Tree) × (trees_at ts (read_form b).fields ≡ some us)
    some_trees = trees_some ts n trees (read_form b).fields (sym s.nodes ∙ not-false g z)

    pub uses_fault : (i : ℕ) → first_fault (once_in d n) 0 (numbers n 0) ≡ some i → r ≡ said 4 (i + 1) → r ≡ check_code (check_use (read_form b) ts)
    unfolding check_use
    uses_fault i w e =
        let (us, h) = some_trees in
        e ∙ rw (h, count, sym (uses_same (read_form b) n (omega arith) d used) ∙ w, check_use, add-one i)

    pub uses_good : first_fault (once_in d n) 0 (numbers n 0) ≡ none → r ≡ said 0 0 → r ≡ check_code (check_use (read_form b) ts)
    unfolding check_use
    uses_good w e =
        let (us, h) = some_trees in
        e ∙ rw (h, count, sym (uses_same (read_form b) n (omega arith) d used) ∙ w, check_use)

-- ---- name records
map_same : {A B : Type 0} (g h : A → B) → ((a : A) → g a ≡ h a) → (l : List A) → map g l ≡ map h l
map_same g h e [] = refl
map_same g h e (a ∷ l) = ap₂ (λ (y : _) (ys : List _). y ∷ ys) (e a) (map_same g h e l)

fault_below : {A : Type 0} (p : A → Bool) (l : List A) (j i : ℕ) → first_fault p j l ≡ some i → i < j + length l
unfolding first_fault
fault_below p [] j i e = absurd (let z : ◌≡◌ {A = ℕ} 0 1 = cc in omega arith)
fault_below p (a ∷ l) j i e = go (p a) refl e (λ h. fault_below p l (suc j) i h)
  where
    go :
        (t : Bool)
        → p a ≡ t
        → (if t then first_fault p (suc j) l else some j) ≡ some i
        → (first_fault p (suc j) l ≡ some i → i < suc j + length l)
        → i < j + suc (length l)
    go true h e later = let r = later e in omega arith
    go false h e later = let s : j ≡ i = cc in omega arith

module _ (b : List ℕ) where
  names_read : (at : ℕ) → at ≡ names_at b → names_in (from at b) (name_count b) ≡ (read_form b).names
  unfolding names_in read_form
  names_read at e =
      rw (from_drop at b, e)
      (map_same (λ k. read_name (drop (names_at b) b) (6 * k)) (λ k. read_name b (names_at b + 6 * k)) (λ k. record_drop b (names_at b) (6 * k)) (numbers (name_count b) 0))

  area_read : (at : ℕ) → at ≡ area_at b → from at b ≡ (read_form b).area
  unfolding read_form
  area_read at e = from_drop at b ∙ ap (λ (i : ℕ). drop i b) e

  pub records_found :
      (at area m r : ℕ)
      → at ≡ names_at b
      → area ≡ area_at b
      → m ≡ name_count b
      → r ≡ fault_or m (first_fault (name_good (from area b)) 0 (names_in (from at b) m))
      → r ≡ records_fault (read_form b)
  unfolding records_fault
  records_found at area m r e a k s = s ∙ rw (k, names_read at e, area_read area a, names_length b)

-- ---- the check
trees_refused : (f : Form) (below : List Tree) (xs : List Node) (n : ℕ) (k : Option ℕ) → trees_from f below xs ≡ refused_at n k → n ≡ 3
unfolding trees_from
trees_refused f below [] n k e = absurd (let z : ◌≡◌ {A = ℕ} 0 1 = cc in omega arith)
trees_refused f below (x ∷ xs) n k e = go (tree_of f below x) refl (λ t. trees_refused f (below ++ (t ∷ [])) xs n k)
  where
    go : (o : Option Tree) → tree_of f below x ≡ o → ((t : Tree) → trees_from f (below ++ (t ∷ [])) xs ≡ refused_at n k → n ≡ 3) → n ≡ 3
    go none h later = let w : refused_at 3 (some (length below)) ≡ refused_at n k = rw (h, trees_from) at e in cc
    go (some t) h later = later t (rw (h, trees_from) at e)

module _ (b : List ℕ) (g : Bool) (eg : g ≡ length_good b) where
  pub check_length : not g ≡ true → (r : Refused) → r ≡ said 1 0 → r ≡ check_code (check_form b)
  unfolding check_form
  check_length z r s = s ∙ rw (← eg, not-true g z)

  module _ (z : not g ≡ false) where
    form_records : check_form b ≡ check_records (read_form b)
    unfolding check_form
    form_records = rw (← eg, not-false g z)

    module _ (i : ℕ) (ei : i ≡ records_fault (read_form b)) (m : ℕ) (em : m ≡ name_count b) where
      by_fault : (o : Option ℕ) → first_fault (name_good (read_form b).area) 0 (read_form b).names ≡ o → i ≡ fault_or m o
      unfolding records_fault
      by_fault o k = ei ∙ rw (k, names_length b, em)

      pub check_names : i < m → (r : Refused) → r ≡ said 2 (i + 1) → r ≡ check_code (check_form b)
      unfolding check_records
      check_names l r s = go (first_fault (name_good (read_form b).area) 0 (read_form b).names) refl
        where
          go : (o : Option ℕ) → first_fault (name_good (read_form b).area) 0 (read_form b).names ≡ o → r ≡ check_code (check_form b)
          go none k = absurd (omega (arith, by_fault none k))
          go (some j) k = s ∙ rw (form_records, k, check_records, ← by_fault (some j) k, add-one i)

      module _ (l : m ≤ i) where
        no_name_fault : first_fault (name_good (read_form b).area) 0 (read_form b).names ≡ none
        no_name_fault = go (first_fault (name_good (read_form b).area) 0 (read_form b).names) refl
          where
            go : (o : Option ℕ) → first_fault (name_good (read_form b).area) 0 (read_form b).names ≡ o → o ≡ none
            go none k = refl
            go (some j) k = absurd (omega (arith, by_fault (some j) k, names_length b, fault_below (name_good (read_form b).area) (read_form b).names 0 j k))

        module _ (w : Refused) (ew : w ≡ check_code (trees_from (read_form b) [] (read_form b).nodes)) where
          pub check_nodes_bad : (w.number ≡ 0 → ⊥) → w ≡ check_code (check_form b)
          unfolding check_records
          check_nodes_bad n = go (trees_from (read_form b) [] (read_form b).nodes) refl
            where
              go : (o : Checked (List Tree)) → trees_from (read_form b) [] (read_form b).nodes ≡ o → w ≡ check_code (check_form b)
              go (accepted ts) k = absurd (n (ap (λ (q : Refused). q.number) (ew ∙ ap check_code k)))
              go (refused_at c p) k = ew ∙ rw (form_records, no_name_fault, k, check_records)

          pub check_nodes_good :
              w.number ≡ 0
              → (r : Refused)
              → ((ts : List Tree) → length ts ≡ node_count b → r ≡ check_code (check_use (read_form b) ts))
              → r ≡ check_code (check_form b)
          unfolding check_records
          check_nodes_good n r h = go (trees_from (read_form b) [] (read_form b).nodes) refl
            where
              go : (o : Checked (List Tree)) → trees_from (read_form b) [] (read_form b).nodes ≡ o → r ≡ check_code (check_form b)
              go (accepted ts) k =
                  h ts (trees_length (read_form b) [] (read_form b).nodes ts k ∙ zero-add (length (read_form b).nodes) ∙ nodes_length b)
                  ∙ rw (form_records, no_name_fault, k, check_records)
              go (refused_at c p) k =
                  absurd (omega (arith, trees_refused (read_form b) [] (read_form b).nodes c p k, sym n ∙ ap (λ (q : Refused). q.number) (ew ∙ ap check_code k)))
