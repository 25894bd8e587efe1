-- Each node of an accepted form has at most 64 leaves: it is a field, or a child of one node, which has at least as many.
use mathlib.Core.Bool.{Bool, true, false}
use mathlib.Core.List.{List, [], ◌∷◌, ◌++◌}
use mathlib.Core.Logic.{◌⊎◌, inl, inr, ⊎_elim}
use mathlib.Core.Option.{some, some-injective}
use mathlib.Core.Path.{◌≡◌, refl, sym, ◌∙◌, ap, subst}
use Prim.Native.Nat.{ℕ, zero, suc, ◌+◌, ◌≤◌, ◌<◌}
use native.Mathlib.Nat.{zero-add, le_refl}
use native.Mathlib.Omega.{arith}
use lib.Dec.{leb, eqb}
use lib.ListN.{length, get_elem?}
use borrow.Author.Tests.{eqb-true}
use Rattle.rules.specs.Base.{occurrences, numbers, concat_map}
use Rattle.rules.specs.Form.{Node, Form, read_form}
use Rattle.rules.specs.Tree.{Tree}
use Rattle.rules.specs.Accept.{Accepted, accepted, check_form, trees_at, children_of, uses, used_once}
use Rattle.rules.specs.Demands.{All}
use Rattle.rules.specs.Sound.{leaves, all_leaves}
use Rattle.rules.proofs.Acceptance.{Made, flag_made, argument_made, positional_made, optional_made, many_made, some_made, count_made, last_made, choice_made, fallback_made, guard_made}
use Rattle.rules.proofs.Acceptance.{Child, TreesAt}
use Rattle.rules.proofs.Acceptance.{trees_made, trees_length, fields_step, no_fault, lookup_inside, numbers_all, Passed, accepted_passed, accepted_length, accepted_form}
use Rattle.rules.proofs.Uses.{used_once_lem, leaves_law, leaf_few}
use Rattle.form_layout.proofs.Sizes.{sized, nodes_length}

-- ---- a number that occurs in a list
occurs_append :
    (k : ℕ) (ks ls : List ℕ)
    → (occurrences k (ks ++ ls) ≡ 0 → ⊥)
    → (occurrences k ks ≡ 0 → ⊥) ⊎ (occurrences k ls ≡ 0 → ⊥)
unfolding occurrences
occurs_append k [] ls h = inr h
occurs_append k (y ∷ ks) ls h = go (occurs_append k ks ls) (eqb k y) refl
  where
    go :
        ((occurrences k (ks ++ ls) ≡ 0 → ⊥) → (occurrences k ks ≡ 0 → ⊥) ⊎ (occurrences k ls ≡ 0 → ⊥))
        → (b : Bool)
        → eqb k y ≡ b
        → (occurrences k (y ∷ ks) ≡ 0 → ⊥) ⊎ (occurrences k ls ≡ 0 → ⊥)
    go more true e = inl (λ z. omega (arith, rw e at z))
    go more false e = rw e (more (rw e at h))

occurs_all : (P : ℕ → Type 0) (k : ℕ) (ks : List ℕ) → All P ks → (occurrences k ks ≡ 0 → ⊥) → P k
unfolding occurrences
occurs_all P k [] h z = absurd (z refl)
occurs_all P k (y ∷ ks) h z = go (occurs_all P k ks h.1) (eqb k y) refl
  where
    go : ((occurrences k ks ≡ 0 → ⊥) → P k) → (b : Bool) → eqb k y ≡ b → P k
    go more true e = subst P (sym (eqb-true k y e)) h.0
    go more false e = more (rw e at z)

-- ---- a child has no more leaves than its node
module _ (f : Form) (ts : List Tree) (k : ℕ) (x : Node) where
  -- a child's number is lower, and its tree has no more than n leaves
  pub record Below (n i : ℕ) : Type 0 where
    pub lower : i < k
    pub tree : Tree
    pub stands : get_elem? ts i ≡ some tree
    pub fewer : leaves tree ≤ n

  one_child : (c : Tree) (n : ℕ) → x.kind ≡ n → Child ts k x.p c → leb n 3 ≡ false → eqb n 9 ≡ false → All (Below (leaves c)) (children_of x)
  unfolding children_of
  one_child c n z h a b =
      rw (z, a, b) (record { lower = h.0; tree = c; stands = h.1; fewer = le_refl (leaves c) }, tt)

  no_child : (m n : ℕ) → x.kind ≡ n → leb n 3 ≡ true → All (Below m) (children_of x)
  unfolding children_of
  no_child m n z a = rw (z, a) tt

  made_below : (t : Tree) → Made f ts k x t → All (Below (leaves t)) (children_of x)
  unfolding leaves children_of
  made_below t (flag_made l z r u n) = no_child 1 1 z refl
  made_below t (argument_made l z r u n) = no_child 1 2 z refl
  made_below t (positional_made z p r u) = no_child 1 3 z refl
  made_below t (optional_made b c z r u h e) = one_child c 4 z h refl refl
  made_below t (many_made b c z r u h a e) = one_child c 5 z h refl refl
  made_below t (some_made b c z r u h a e) = one_child c 6 z h refl refl
  made_below t (count_made c z u h a e) = one_child c 7 z h refl refl
  made_below t (last_made c z u h a e) = one_child c 8 z h refl refl
  made_below t (choice_made c d z u h g e) =
      rw z (
        record { lower = h.0; tree = c; stands = h.1; fewer = omega arith },
        (record { lower = g.0; tree = d; stands = g.1; fewer = omega arith }, tt),
      )
  made_below t (fallback_made c κ v z u h g w e) = one_child c 10 z h refl refl
  made_below t (guard_made c z u h s e) = one_child c 11 z h refl refl

-- ---- a node that is a child
module _ (f : Form) (ts : List Tree) (k : ℕ) where
  -- one whose number is higher, and whose tree has as many leaves or more
  record Parent : Type 0 where
    node : ℕ
    higher : k < node
    tree : Tree
    stands : get_elem? ts node ≡ some tree
    child : Tree
    here : get_elem? ts k ≡ some child
    more : leaves child ≤ leaves tree

  parent : (j : ℕ) (xs : List Node) → TreesAt f ts j xs → (occurrences k (concat_map children_of xs) ≡ 0 → ⊥) → Parent
  unfolding concat_map occurrences
  parent j [] h z = absurd (z refl)
  parent j (x ∷ xs) h z =
      ⊎_elim
      (λ (o : occurrences k (children_of x) ≡ 0 → ⊥).
      let n = h.0 in
      let b = occurs_all (Below f ts j x (leaves n.tree)) k (children_of x) (made_below f ts j x n.tree n.made) o in
      record {
        node = j;
        higher = b.lower;
        tree = n.tree;
        stands = n.stands;
        child = b.tree;
        here = b.stands;
        more = b.fewer;
      })
      (λ (o : occurrences k (concat_map children_of xs) ≡ 0 → ⊥). parent (suc j) xs h.1 o)
      (occurs_append k (children_of x) (concat_map children_of xs) z)

-- ---- a node that is a field
fields_within :
    (ts : List Tree) (ks : List ℕ) (us : List Tree) (n : ℕ)
    → trees_at ts ks ≡ some us
    → all_leaves us ≤ n
    → All (λ (k : ℕ). (t : Tree) → get_elem? ts k ≡ some t → leaves t ≤ n) ks
unfolding all_leaves
fields_within ts [] us n e l = tt
fields_within ts (k ∷ ks) us n e l =
    let (t, vs, h, r, same) = fields_step ts k ks us e in
    let m : leaves t + all_leaves vs ≤ n = subst (λ (ws : List Tree). all_leaves ws ≤ n) (sym same) l in (
      λ u g. let s = ap leaves (some-injective t u (sym h ∙ g)) in omega arith,
      fields_within ts ks vs n r (omega arith),
    )

-- ---- every node
module _ (f : Form) (a : Accepted) (p : Passed f a) (n : ℕ) (few : all_leaves a.fields ≤ n) where
  used : (k : ℕ) → k < length a.trees → occurrences k (uses f) ≡ 0 → ⊥
  used k h z =
      let long : length a.trees ≡ length f.nodes =
      trees_length f [] f.nodes a.trees p.trees ∙ zero-add (length f.nodes) in
      let once = used_once_lem f (numbers (length f.nodes) 0) (no_fault (used_once f) 0 (numbers (length f.nodes) 0) p.once) in
      let one : occurrences k (uses f) ≡ 1 =
      numbers_all (λ (i : ℕ). occurrences i (uses f) ≡ 1) (length f.nodes) 0 once k (omega arith) (omega arith) in
      omega arith

  -- from the last node down
  bounded : (d k : ℕ) → length a.trees ≤ k + d → (t : Tree) → get_elem? a.trees k ≡ some t → leaves t ≤ n
  unfolding uses
  bounded zero k l t e = let h = lookup_inside a.trees k t e in absurd (omega arith)
  bounded (suc d) k l t e =
      ⊎_elim
      (λ (o : occurrences k f.fields ≡ 0 → ⊥).
      occurs_all (λ (i : ℕ). (u : Tree) → get_elem? a.trees i ≡ some u → leaves u ≤ n) k f.fields
      (fields_within a.trees f.fields a.fields n p.fields few) o t e)
      (λ (o : occurrences k (concat_map children_of f.nodes) ≡ 0 → ⊥).
      let q = parent f a.trees k 0 f.nodes (trees_made f [] f.nodes a.trees p.trees) o in
      let up = q.higher in
      let most = bounded d q.node (omega arith) q.tree q.stands in
      let more = q.more in
      let same = ap leaves (some-injective q.child t (sym q.here ∙ e)) in
      omega arith)
      (occurs_append k f.fields (concat_map children_of f.nodes) (used k (lookup_inside a.trees k t e)))

module _ (b : List ℕ) (a : Accepted) (e : check_form b ≡ accepted a) where
  pub few_leaves : (k : ℕ) (t : Tree) → get_elem? a.trees k ≡ some t → leaves t ≤ 64
  few_leaves k t h =
      let law = leaves_law b a e in
      let few = leaf_few a.form.nodes in
      let nodes = ap (λ (f : Form). length f.nodes) (accepted_form b a e) ∙ nodes_length b in
      let most = (sized b (accepted_length b a e)).counts.nodes.1 in
      bounded (read_form b) a (accepted_passed b a e) 64 (omega arith) (length a.trees) k (omega arith) t h
