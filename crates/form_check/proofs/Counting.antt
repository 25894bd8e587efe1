-- How often each node is used: the table of the code against the rules' count.
use Rattle.std.specs.Prelude.{Option as Found, Some, None, cond, not, position}
use Rattle.std.specs.List.{position_from}
use Rattle.std.proofs.lemmas.Iterator.Adapters.{position_from-zero}
use Rattle.std.specs.Prelude.{if◌then◌else◌}
use mathlib.Core.Bool.{Bool, true, false, ◌&&◌, and-eq-true_iff, false≢true}
use mathlib.Core.List.{List, [], ◌∷◌, ◌++◌}
use mathlib.Core.Logic.{⊎_elim, ◌≢◌}
use mathlib.Core.Option.{Option, some, none}
use mathlib.Core.Path.{◌≡◌, refl, sym, ◌∙◌, ap}
use Prim.Native.Nat.{ℕ, zero, suc, ◌+◌, ◌≤◌, ◌<◌, min}
use native.Mathlib.Numerals.{add-one}
use native.Mathlib.Omega.{arith}
use lib.Dec.{ltb, eqb}
use lib.ListN.{length, get_or, get_elem?, set, take, drop, replicate, length-set, length-replicate, get_or-replicate, drop_of_length-le}
use lib.Seq.{drop-cons, get_or-set_same, get_or-set_other}
use borrow.Author.Tests.{eq-eqb, ne_eqb, lt-ltb, le-ltb, ltb-true, ltb-false, eqb-true, eqb-false}
use Rattle.rules.specs.Base.{all, occurrences, numbers, concat_map, first_fault, ◌>>?◌}
use Rattle.rules.specs.Form.{Node, Form}
use Rattle.rules.specs.Tree.{Tree}
use Rattle.rules.specs.Accept.{children_of, uses, used_once, trees_at}
use Rattle.rules.proofs.Acceptance.{lookup_some}
use Rattle.form_names.proofs.Faults.{fault_same}
use Rattle.form_kinds.proofs.Steps.{lookup_none, drop_there}
use Rattle.form_kinds.proofs.Table.{same_or}
use Rattle.form_check.specs.Uses.{added, tally, FieldsCounted}

-- ---- one more use
pub added_more : (c : List ℕ) (k : ℕ) → k < 64 → get_or c k 0 < 2 → set c k (get_or c k 0 + 1) ≡ added c k
unfolding added
added_more c k l h = rw (lt-ltb k 64 l, lt-ltb (get_or c k 0) 2 h)

pub added_full : (c : List ℕ) (k : ℕ) → k < 64 → 2 ≤ get_or c k 0 → c ≡ added c k
unfolding added
added_full c k l h = rw (lt-ltb k 64 l, le-ltb (get_or c k 0) 2 h)

pub added_outside : (c : List ℕ) (k : ℕ) → 64 ≤ k → c ≡ added c k
unfolding added
added_outside c k h = rw (le-ltb k 64 h)

pub tally_append : (c l m : List ℕ) → tally c (l ++ m) ≡ tally (tally c l) m
unfolding tally
tally_append c [] m = refl
tally_append c (k ∷ l) m = tally_append (added c k) l m

-- ---- the loop over the fields: those below i are nodes, and are counted
pub record FieldsFrom (n : ℕ) (l c₀ c : List ℕ) (i : ℕ) : Type 0 where
  pub nodes : all (λ k. ltb k n) l ≡ all (λ k. ltb k n) (drop i l)
  pub counts : tally c₀ l ≡ tally c (drop i l)

module _ (n : ℕ) (l c₀ c : List ℕ) (i : ℕ) (s : FieldsFrom n l c₀ c i) where
  pub fields_next : (k : ℕ) (d : List ℕ) → get_elem? l i ≡ some k → k < n → d ≡ added c k → FieldsFrom n l c₀ d (i + 1)
  unfolding all tally
  fields_next k d e h r = record {
    nodes = s.nodes ∙ rw (drop_there l i k e, add-one i, lt-ltb k n h);
    counts = s.counts ∙ rw (drop_there l i k e, add-one i, r);
  }

  pub fields_bad : (k : ℕ) → get_elem? l i ≡ some k → n ≤ k → FieldsCounted n l c₀ c false
  unfolding all
  fields_bad k e h =
      record { nodes = sym (s.nodes ∙ rw (drop_there l i k e, le-ltb k n h)); counts = λ z. absurd (false≢true z) }

  pub fields_last : length l ≤ i → FieldsCounted n l c₀ c true
  unfolding all tally
  fields_last h = record {
    nodes = sym (s.nodes ∙ rw (drop_of_length-le l h));
    counts = λ z. sym (s.counts ∙ rw (drop_of_length-le l h));
  }

-- ---- the loop over the nodes
module _ (c₀ : List ℕ) (l : List Node) where
  pub children_next :
      (c d : List ℕ) (i : ℕ) (x : Node)
      → tally c₀ (concat_map children_of l) ≡ tally c (concat_map children_of (drop i l))
      → get_elem? l i ≡ some x
      → d ≡ tally c (children_of x)
      → tally c₀ (concat_map children_of l) ≡ tally d (concat_map children_of (drop (i + 1) l))
  unfolding concat_map
  children_next c d i x t e r =
      t ∙ rw (drop_there l i x e, add-one i, r) (tally_append c (children_of x) (concat_map children_of (drop (suc i) l)))

  pub children_last :
      (c : List ℕ) (i : ℕ)
      → tally c₀ (concat_map children_of l) ≡ tally c (concat_map children_of (drop i l))
      → length l ≤ i
      → c ≡ tally c₀ (concat_map children_of l)
  unfolding concat_map tally
  children_last c i t h = sym (t ∙ rw (drop_of_length-le l h))

pub uses_tally :
    (f : Form) (c d g : List ℕ)
    → c ≡ replicate 64 0
    → d ≡ tally c f.fields
    → g ≡ tally d (concat_map children_of f.nodes)
    → g ≡ tally (replicate 64 0) (uses f)
unfolding uses
uses_tally f c d g e r s = s ∙ rw (r, e) (sym (tally_append (replicate 64 0) f.fields (concat_map children_of f.nodes)))

-- ---- the table holds what the rules count, up to 2
added_length : (c : List ℕ) (k : ℕ) → length (added c k) ≡ length c
unfolding added
added_length c k = go (ltb k 64 && ltb (get_or c k 0) 2) refl
  where
    go : (t : Bool) → (ltb k 64 && ltb (get_or c k 0) 2) ≡ t → length (added c k) ≡ length c
    go true e = rw e (length-set c k (get_or c k 0 + 1))
    go false e = rw e

added_here : (c : List ℕ) (k : ℕ) → k < 64 → k < length c → get_or c k 0 ≤ 2 → get_or (added c k) k 0 ≡ min 2 (get_or c k 0 + 1)
unfolding added
added_here c k s h l = go (ltb (get_or c k 0) 2) refl
  where
    go : (t : Bool) → ltb (get_or c k 0) 2 ≡ t → get_or (added c k) k 0 ≡ min 2 (get_or c k 0 + 1)
    go true e = rw (lt-ltb k 64 s, e) (get_or-set_same c k (get_or c k 0 + 1) 0 h ∙ omega (arith, ltb-true (get_or c k 0) 2 e))
    go false e = rw (lt-ltb k 64 s, e) (omega (arith, ltb-false (get_or c k 0) 2 e))

added_other : (c : List ℕ) (k j : ℕ) → j ≢ k → get_or (added c k) j 0 ≡ get_or c j 0
unfolding added
added_other c k j n = go (ltb k 64 && ltb (get_or c k 0) 2) refl
  where
    go : (t : Bool) → (ltb k 64 && ltb (get_or c k 0) 2) ≡ t → get_or (added c k) j 0 ≡ get_or c j 0
    go true e = rw e (get_or-set_other c k j (get_or c k 0 + 1) 0 n)
    go false e = rw e

tally_at : (ks c : List ℕ) (j : ℕ) → j < 64 → j < length c → get_or c j 0 ≤ 2 → get_or (tally c ks) j 0 ≡ min 2 (get_or c j 0 + occurrences j ks)
unfolding tally occurrences
tally_at [] c j s h l = omega arith
tally_at (k ∷ ks) c j s h l =
    ⊎_elim
    (λ (e : j ≡ k).
    let here : get_or (added c k) j 0 ≡ min 2 (get_or c j 0 + 1) = rw (sym e) (added_here c j s h l) in
    let later = tally_at ks (added c k) j s (omega (arith, added_length c k)) (omega arith) in
    rw (eq-eqb j k e) (omega arith))
    (λ (n : j ≢ k).
    let here = added_other c k j n in
    let later = tally_at ks (added c k) j s (omega (arith, added_length c k)) (omega arith) in
    rw (ne_eqb j k n) (omega arith))
    (same_or j k)

once_at : (ks : List ℕ) (j : ℕ) → j < 64 → eqb (get_or (tally (replicate 64 0) ks) j 0) 1 ≡ eqb (occurrences j ks) 1
once_at ks j h = go (eqb (occurrences j ks) 1) refl
  where
    held : get_or (tally (replicate 64 0) ks) j 0 ≡ min 2 (0 + occurrences j ks)
    held =
        let none : ◌≡◌ {A = ℕ} (get_or (replicate 64 0) j 0) 0 = get_or-replicate 64 j 0 0 h in
        let at = tally_at ks (replicate 64 0) j h (omega (arith, length-replicate {A = ℕ} 64 0)) (omega arith) in
        omega arith

    go : (t : Bool) → eqb (occurrences j ks) 1 ≡ t → eqb (get_or (tally (replicate 64 0) ks) j 0) 1 ≡ t
    go true e = eq-eqb (get_or (tally (replicate 64 0) ks) j 0) 1 (omega (arith, held, eqb-true (occurrences j ks) 1 e))
    go false e = ne_eqb (get_or (tally (replicate 64 0) ks) j 0) 1 (λ (z : get_or (tally (replicate 64 0) ks) j 0 ≡ 1). eqb-false (occurrences j ks) 1 e (omega (arith, held)))

-- ---- the lowest of the first n entries that a test finds, as a fault among n numbers
abbrev told : Found ℕ → Option ℕ
told None = none
told (Some i) = some i

module _ (test good : ℕ → Bool) (c : List ℕ) (same : (k : ℕ) → good k ≡ not (test (get_or c k 0))) where
  found_from : (n k : ℕ) → k + n ≤ length c → first_fault good k (numbers n k) ≡ told (position_from test k (take n (drop k c)))
  unfolding first_fault numbers
  found_from zero k h = refl
  found_from (suc n) k h = rw (drop-cons c k 0 (omega arith), same k) (go (test (get_or c k 0)) (found_from n (suc k) (omega arith)))
    where
      go :
          (t : Bool)
          → first_fault good (suc k) (numbers n (suc k)) ≡ told (position_from test (suc k) (take n (drop (suc k) c)))
          → (if not t then first_fault good (suc k) (numbers n (suc k)) else some k) ≡ told (cond t (Some k) (position_from test (k + 1) (take n (drop (suc k) c))))
      go true later = refl
      go false later = rw (add-one k) later

  module _ (n : ℕ) (h : n ≤ length c) (r : Found ℕ) (e : r ≡ position test (take n c)) where
    found : first_fault good 0 (numbers n 0) ≡ told r
    found = found_from n 0 (omega arith) ∙ ap told (sym (e ∙ position_from-zero test (take n c)))

    pub found_some : (i : ℕ) → r ≡ Some i → first_fault good 0 (numbers n 0) ≡ some i
    found_some i s = found ∙ ap told s

    pub found_none : r ≡ None → first_fault good 0 (numbers n 0) ≡ none
    found_none s = found ∙ ap told s

pub not_not : (t : Bool) → t ≡ not (not t)
not_not true = refl
not_not false = refl

-- ---- the lowest node that is not used once
module _ (c : List ℕ) (n : ℕ) where
  abbrev pub once_in : ℕ → Bool
  once_in k = eqb (get_or c k 0) 1

module _ (f : Form) (n : ℕ) (h : n ≤ 64) (c : List ℕ) (e : c ≡ tally (replicate 64 0) (uses f)) where
  pub uses_same : first_fault (once_in c n) 0 (numbers n 0) ≡ first_fault (used_once f) 0 (numbers n 0)
  unfolding used_once
  uses_same = fault_same (once_in c n) (used_once f) n 0 (λ k a b. rw e (once_at (uses f) k (omega arith)))

-- ---- the trees of the fields
module _ (ts : List Tree) (n : ℕ) (long : length ts ≡ n) where
  pub trees_none : (ks : List ℕ) → all (λ k. ltb k n) ks ≡ false → trees_at ts ks ≡ none
  unfolding all trees_at ◌>>?◌
  trees_none [] e = absurd (false≢true (sym e))
  trees_none (k ∷ ks) e = go (ltb k n) refl (trees_none ks)
    where
      none_bind : {A B : Type 0} (o : Option A) → ◌>>?◌ {B = B} o (λ a. none) ≡ none
      none_bind none = refl
      none_bind (some a) = refl

      go : (t : Bool) → ltb k n ≡ t → (all (λ k. ltb k n) ks ≡ false → trees_at ts ks ≡ none) → trees_at ts (k ∷ ks) ≡ none
      go false s later = rw (lookup_none ts k (omega (arith, ltb-false k n s)), ◌>>?◌)
      go true s later = rw (later (rw s at e), ◌>>?◌) (none_bind (get_elem? ts k))

  pub trees_some : (ks : List ℕ) → all (λ k. ltb k n) ks ≡ true → (us : List Tree) × (trees_at ts ks ≡ some us)
  unfolding all trees_at ◌>>?◌
  trees_some [] e = ([], refl)
  trees_some (k ∷ ks) e =
      let p = (and-eq-true_iff (ltb k n) (all (λ k. ltb k n) ks)).0 e in
      let (t, h) = lookup_some ts k (omega (arith, ltb-true k n p.0)) in
      let (us, r) = trees_some ks p.1 in
      (t ∷ us, rw (h, r, ◌>>?◌))
