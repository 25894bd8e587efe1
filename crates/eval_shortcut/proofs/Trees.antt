-- The node at hand, by its kind: what its tree is, and its children.
use mathlib.Core.Bool.{Bool, true, ◌&&◌, false≢true}
use mathlib.Core.List.{List, [], ◌∷◌}
use mathlib.Core.Option.{Option, some, none, some-injective, none-ne-some}
use mathlib.Core.Path.{◌≡◌, refl, sym, ◌∙◌, ap}
use Prim.Native.Nat.{ℕ, zero, suc, ◌+◌, ◌%◌, ◌≤◌, ◌<◌}
use native.Mathlib.Omega.{arith}
use lib.Dec.{leb, eqb}
use lib.ListN.{length, take, get_elem?}
use borrow.Author.Tests.{eqb-true}
use Rattle.std.specs.Prelude.{if◌then◌else◌}
use Rattle.rules.specs.Base.{is_some, contains, ◌>>?◌}
use Rattle.rules.specs.Value.{text, number, Kind, one, optional, list, list_of_optional, optional_list, BaseValue}
use Rattle.rules.specs.Form.{Node, Form, node_count, name_count, read_form}
use Rattle.rules.specs.Tree.{Named, Tree, Flag, Argument, Positional, Optional, Many, Some, Count, Last, Choice, Fallback, Guard, list_kind, shape_of, kind_of, has_repeat, zeros, named_of}
use Rattle.rules.specs.Tree.{flag_of, argument_of, position_of, positional_of, fitting, repeat_of, fallback_value, fallback_of, guard_of, child_of, caught_of, choice_of, tree_of}
use Rattle.rules.specs.Accept.{Accepted, accepted, length_good, check_form}
use Rattle.rules.specs.Sound.{Sound}
use Rattle.rules.proofs.Acceptance.{if_some, if_not_some, bind_some, branch, lookup_inside, accepted_length, accepted_form, accepted_trees}
use Rattle.form_layout.proofs.Sizes.{nodes_length}
use Rattle.form_codes.specs.Codes.{named_at}
use Rattle.form_codes.proofs.NameCodes.{named_at_lem}
use Rattle.eval_told.specs.Nodes.{tree_at, is_scalar}
use Rattle.eval_told.proofs.NodeLaw.{node_tree, tree_sound, at_tree, tree_accepted}

-- ---- a front of a list
front_at : {A : Type 0} (n : ℕ) (l : List A) (i : ℕ) (a : A) → get_elem? (take n l) i ≡ some a → (i < n) × (get_elem? l i ≡ some a)
front_at zero l i a e = absurd (none-ne-some a e)
front_at (suc n) [] i a e = absurd (none-ne-some a e)
front_at (suc n) (b ∷ l) zero a e = (omega arith, e)
front_at (suc n) (b ∷ l) (suc i) a e = let h = front_at n l i a e in (omega (arith, h.0), h.1)

-- ---- a leaf with names, from `first` on
pub record Leaf (make : ℕ → Named → Tree) (b : List ℕ) (first count : ℕ) (t : Tree) : Type 0 where
  pub place : ℕ
  pub same : make place (named_at b first count) ≡ t
  pub inside : first + count ≤ name_count b

-- ---- a node with one child
pub record Single (make : Tree → Tree) (b : List ℕ) (n i : ℕ) (t : Tree) : Type 0 where
  pub child : Tree
  pub less : i < n
  pub node : tree_at b i ≡ some child
  pub same : make child ≡ t

pub record Fallen (b : List ℕ) (n i : ℕ) (t : Tree) : Type 0 where
  pub own : BaseValue
  pub single : Single (Fallback own) b n i t

pub record Double (b : List ℕ) (n i j : ℕ) (t : Tree) : Type 0 where
  pub first : Tree
  pub second : Tree
  pub less : i < n
  pub less₂ : j < n
  pub node : tree_at b i ≡ some first
  pub node₂ : tree_at b j ≡ some second
  pub same : Choice first second ≡ t

fitting_is : (t u : Tree) → fitting t ≡ some u → t ≡ u
unfolding fitting
fitting_is t u e = some-injective t u (if_some (is_some (kind_of t)) (some t) e).1

repeat_is : (make : Tree → Tree) (t u : Tree) → repeat_of make t ≡ some u → make t ≡ u
unfolding repeat_of
repeat_is make t u e = fitting_is (make t) u (if_not_some (has_repeat t) (fitting (make t)) e).1

-- the number of a tree's kind
unfoldable pub kind_number : Tree → ℕ
kind_number (Flag n names switch) = 1
kind_number (Argument n names b adjacent) = 2
kind_number (Positional n q b) = 3
kind_number (Optional c t) = 4
kind_number (Many c t) = 5
kind_number (Some c t) = 6
kind_number (Count t) = 7
kind_number (Last t) = 8
kind_number (Choice t u) = 9
kind_number (Fallback v t) = 10
kind_number (Guard l h t) = 11

-- the tree by a kind
abbrev tree_by : Form → List Tree → Node → ℕ → Option Tree
tree_by f below x n =
    if eqb n 1 then flag_of f (length below) x else
    (if eqb n 2 then argument_of f (length below) x else
    (if eqb n 3 then positional_of (length below) x else
    (if eqb n 4 then caught_of below x (λ c t. fitting (Optional c t)) else
    (if eqb n 5 then caught_of below x (λ c. repeat_of (Many c)) else
    (if eqb n 6 then caught_of below x (λ c. repeat_of (Some c)) else
    (if eqb n 7 then child_of (x.r ∷ x.lo ∷ x.hi ∷ []) below x (repeat_of Count) else
    (if eqb n 8 then child_of (x.r ∷ x.lo ∷ x.hi ∷ []) below x (repeat_of Last) else
    (if eqb n 9 then choice_of below x else
    (if eqb n 10 then child_of [] below x (fallback_of f x) else
    (if eqb n 11 then child_of (x.r ∷ []) below x (guard_of x) else none))))))))))

tree_by_lem : (f : Form) (below : List Tree) (x : Node) (n : ℕ) → x.kind ≡ n → tree_of f below x ≡ tree_by f below x n
unfolding tree_of
tree_by_lem f below x n e = ap (tree_by f below x) e

-- ---- a list is no scalar
list_no_scalar : (k : Option Kind) → is_scalar (k >>? list_kind) ≡ true → ⊥
unfolding is_scalar ◌>>?◌ list_kind shape_of
list_no_scalar none e = false≢true e
list_no_scalar (some (one b)) e = false≢true e
list_no_scalar (some (optional b)) e = false≢true e
list_no_scalar (some (list b)) e = false≢true e
list_no_scalar (some (list_of_optional b)) e = false≢true e
list_no_scalar (some (optional_list b)) e = false≢true e

many_no_scalar : (c : Bool) (t u : Tree) → Many c t ≡ u → is_scalar (kind_of u) ≡ true → ⊥
unfolding kind_of
many_no_scalar c t u e s = list_no_scalar (kind_of t) (rw (← e, kind_of) at s)

some_no_scalar : (c : Bool) (t u : Tree) → Some c t ≡ u → is_scalar (kind_of u) ≡ true → ⊥
unfolding kind_of
some_no_scalar c t u e s = list_no_scalar (kind_of t) (rw (← e, kind_of) at s)

-- ---- a node that has a tree
module _ (b : List ℕ) (n : ℕ) (t : Tree) (e : tree_at b n ≡ some t) where
  found : (a : Accepted) × (check_form b ≡ accepted a) × (get_elem? a.trees n ≡ some t)
  found = tree_accepted b n t e

  pub form_good_lem : length_good b ≡ true
  form_good_lem = accepted_length b found.0 found.1

  pub node_inside : n < node_count b
  node_inside =
      let a = found.0 in
      let h = lookup_inside a.trees n t found.2 in
      let l = accepted_trees b a found.1 in
      let k = ap (λ (f : Form). length f.nodes) (accepted_form b a found.1) in
      omega (arith, nodes_length b)

  pub sound_at : Sound t
  sound_at = tree_sound b found.0 found.1 n t found.2

  below : List Tree
  below = take n found.0.trees

  below_at : (i : ℕ) (c : Tree) → get_elem? below i ≡ some c → (i < n) × (tree_at b i ≡ some c)
  unfolding below
  below_at i c h =
      let p = front_at n found.0.trees i c h in
      (p.0, at_tree b found.0 found.1 i ∙ p.1)

  module _ (x : Node) (h : get_elem? (read_form b).nodes n ≡ some x) where
    made : tree_of (read_form b) below x ≡ some t
    unfolding below
    made =
        let g = node_tree b found.0 found.1 n x h in
        let same : g.tree ≡ t = some-injective _ _ (sym g.stands ∙ found.2) in
        g.made ∙ ap some same

    made_by : (k : ℕ) → x.kind ≡ k → tree_by (read_form b) below x k ≡ some t
    made_by k q = sym (tree_by_lem (read_form b) below x k q) ∙ made

    named_leaf :
        (make : ℕ → Named → Tree) (k : ℕ)
        → (named_of (read_form b) x >>? λ m. some (make k m)) ≡ some t
        → Leaf make b x.p x.q t
    named_leaf make k q =
        let (m, g, z) = bind_some (named_of (read_form b) x) (λ m. some (make k m)) q in
        let (same, room) = named_at_lem b x m g in
        record { place = k; same = ap (make k) (sym same) ∙ some-injective (make k m) t z; inside = room }

    pub flag_tree : x.kind ≡ 1 → Leaf (λ k m. Flag k m (eqb x.r 1)) b x.p x.q t
    unfolding flag_of
    flag_tree q =
        named_leaf (λ k m. Flag k m (eqb x.r 1)) (length below)
        (if_some (leb x.r 1 && zeros (x.lo ∷ x.hi ∷ [])) _ (made_by 1 q)).1

    pub argument_tree :
        x.kind ≡ 2
        → Leaf (λ k m. Argument k m (if leb 2 x.r then number else text) (eqb (x.r % 2) 1)) b x.p x.q t
    unfolding argument_of
    argument_tree q =
        named_leaf (λ k m. Argument k m (if leb 2 x.r then number else text) (eqb (x.r % 2) 1)) (length below)
        (if_some (leb x.r 3 && zeros (x.lo ∷ x.hi ∷ [])) _ (made_by 2 q)).1

    pub positional_tree :
        x.kind ≡ 3
        → (k : ℕ) × (Positional k (position_of x.p) (if eqb x.r 2 then number else text) ≡ t)
    unfolding positional_of
    positional_tree q =
        let good = leb x.p 2 && contains (0 ∷ 2 ∷ []) x.r && zeros (x.q ∷ x.lo ∷ x.hi ∷ []) in
        (length below, some-injective _ t (if_some good _ (made_by 3 q)).1)

    -- the child that stands at p
    single :
        (make : Tree → Tree) (unused : List ℕ) (fit : Tree → Option Tree)
        → ((c : Tree) → fit c ≡ some t → make c ≡ t)
        → child_of unused below x fit ≡ some t
        → Single make b n x.p t
    unfolding child_of
    single make unused fit same q =
        let a = if_some (zeros (x.q ∷ unused)) (get_elem? below x.p >>? fit) q in
        let (c, g, z) = bind_some (get_elem? below x.p) fit a.1 in
        let p = below_at x.p c g in
        record { child = c; less = p.0; node = p.1; same = same c z }

    pub optional_tree : x.kind ≡ 4 → Single (Optional (eqb x.r 1)) b n x.p t
    unfolding caught_of
    optional_tree q =
        single (Optional (eqb x.r 1)) (x.lo ∷ x.hi ∷ []) (λ c. fitting (Optional (eqb x.r 1) c))
        (λ c. fitting_is (Optional (eqb x.r 1) c) t)
        (if_some (leb x.r 1) _ (made_by 4 q)).1

    pub count_tree : x.kind ≡ 7 → Single Count b n x.p t
    count_tree q = single Count (x.r ∷ x.lo ∷ x.hi ∷ []) (repeat_of Count) (λ c. repeat_is Count c t) (made_by 7 q)

    pub last_tree : x.kind ≡ 8 → Single Last b n x.p t
    last_tree q = single Last (x.r ∷ x.lo ∷ x.hi ∷ []) (repeat_of Last) (λ c. repeat_is Last c t) (made_by 8 q)

    pub choice_tree : x.kind ≡ 9 → Double b n x.p x.q t
    unfolding choice_of
    choice_tree q =
        let a = if_some (zeros (x.r ∷ x.lo ∷ x.hi ∷ [])) (get_elem? below x.p >>? λ c. get_elem? below x.q >>? λ d. fitting (Choice c d)) (made_by 9 q) in
        let (c, g, z) = bind_some (get_elem? below x.p) (λ c. get_elem? below x.q >>? λ d. fitting (Choice c d)) a.1 in
        let (d, k, w) = bind_some (get_elem? below x.q) (λ d. fitting (Choice c d)) z in
        let l = below_at x.p c g in
        let r = below_at x.q d k in
        record { first = c; second = d; less = l.0; less₂ = r.0; node = l.1; node₂ = r.1; same = fitting_is (Choice c d) t w }

    pub fallback_tree : x.kind ≡ 10 → Fallen b n x.p t
    unfolding child_of fallback_of
    fallback_tree q =
        let f = read_form b in
        let a = if_some (zeros (x.q ∷ [])) (get_elem? below x.p >>? fallback_of f x) (made_by 10 q) in
        let (c, g, z) = bind_some (get_elem? below x.p) (fallback_of f x) a.1 in
        let (κ, k, y) = bind_some (kind_of c) (λ κ. fallback_value f x κ >>? λ v. fitting (Fallback v c)) z in
        let (v, u, w) = bind_some (fallback_value f x κ) (λ v. fitting (Fallback v c)) y in
        let l = below_at x.p c g in
        record { own = v; single = record { child = c; less = l.0; node = l.1; same = fitting_is (Fallback v c) t w } }

    pub guard_tree : x.kind ≡ 11 → Single (Guard x.lo x.hi) b n x.p t
    unfolding guard_of
    guard_tree q =
        single (Guard x.lo x.hi) (x.r ∷ []) (guard_of x)
        (λ c z. fitting_is (Guard x.lo x.hi c) t (if_some (leb x.lo x.hi) _ z).1)
        (made_by 11 q)

    list_tree : (make : Bool → Tree → Tree) → caught_of below x (λ c. repeat_of (make c)) ≡ some t → Single (make (eqb x.r 1)) b n x.p t
    unfolding caught_of
    list_tree make q =
        single (make (eqb x.r 1)) (x.lo ∷ x.hi ∷ []) (repeat_of (make (eqb x.r 1)))
        (λ c. repeat_is (make (eqb x.r 1)) c t)
        (if_some (leb x.r 1) _ q).1

    kind_as : (k : ℕ) {u : Tree} → eqb x.kind k ≡ true → u ≡ t → kind_number u ≡ k → kind_number t ≡ x.kind
    kind_as k q e h = sym (ap kind_number e) ∙ h ∙ sym (eqb-true x.kind k q)

    pub tree_number : kind_number t ≡ x.kind
    unfolding tree_of kind_number
    tree_number =
        branch (eqb x.kind 1) _ _ (λ q z. kind_as 1 q (flag_tree (eqb-true x.kind 1 q)).same refl)
        (branch (eqb x.kind 2) _ _ (λ q z. kind_as 2 q (argument_tree (eqb-true x.kind 2 q)).same refl)
        (branch (eqb x.kind 3) _ _ (λ q z. kind_as 3 q (positional_tree (eqb-true x.kind 3 q)).1 refl)
        (branch (eqb x.kind 4) _ _ (λ q z. kind_as 4 q (optional_tree (eqb-true x.kind 4 q)).same refl)
        (branch (eqb x.kind 5) _ _ (λ q z. kind_as 5 q (list_tree Many z).same refl)
        (branch (eqb x.kind 6) _ _ (λ q z. kind_as 6 q (list_tree Some z).same refl)
        (branch (eqb x.kind 7) _ _ (λ q z. kind_as 7 q (count_tree (eqb-true x.kind 7 q)).same refl)
        (branch (eqb x.kind 8) _ _ (λ q z. kind_as 8 q (last_tree (eqb-true x.kind 8 q)).same refl)
        (branch (eqb x.kind 9) _ _ (λ q z. kind_as 9 q (choice_tree (eqb-true x.kind 9 q)).same refl)
        (branch (eqb x.kind 10) _ _ (λ q z. kind_as 10 q (fallback_tree (eqb-true x.kind 10 q)).single.same refl)
        (branch (eqb x.kind 11) _ _ (λ q z. kind_as 11 q (guard_tree (eqb-true x.kind 11 q)).same refl)
        (λ z. absurd (none-ne-some t z))))))))))))
        made

    -- no other kind is left for a value that is no list
    module _ (scalar : is_scalar (kind_of t) ≡ true) where
      not_many : caught_of below x (λ c. repeat_of (Many c)) ≡ some t → ⊥
      not_many q = let z = list_tree Many q in many_no_scalar (eqb x.r 1) z.child t z.same scalar

      not_some : caught_of below x (λ c. repeat_of (Some c)) ≡ some t → ⊥
      not_some q = let z = list_tree Some q in some_no_scalar (eqb x.r 1) z.child t z.same scalar

      kind_is : (k : ℕ) → eqb x.kind k ≡ true → x.kind ≡ k
      kind_is k = eqb-true x.kind k

      pub other_kind :
          (x.kind ≡ 1 → ⊥)
          → (x.kind ≡ 2 → ⊥)
          → (x.kind ≡ 3 → ⊥)
          → (x.kind ≡ 4 → ⊥)
          → (x.kind ≡ 7 → ⊥)
          → (x.kind ≡ 8 → ⊥)
          → (x.kind ≡ 9 → ⊥)
          → (x.kind ≡ 10 → ⊥)
          → x.kind ≡ 11
      unfolding tree_of
      other_kind a b c d i j k l =
          branch (eqb x.kind 1) _ _ (λ q z. absurd (a (kind_is 1 q)))
          (branch (eqb x.kind 2) _ _ (λ q z. absurd (b (kind_is 2 q)))
          (branch (eqb x.kind 3) _ _ (λ q z. absurd (c (kind_is 3 q)))
          (branch (eqb x.kind 4) _ _ (λ q z. absurd (d (kind_is 4 q)))
          (branch (eqb x.kind 5) _ _ (λ q z. absurd (not_many z))
          (branch (eqb x.kind 6) _ _ (λ q z. absurd (not_some z))
          (branch (eqb x.kind 7) _ _ (λ q z. absurd (i (kind_is 7 q)))
          (branch (eqb x.kind 8) _ _ (λ q z. absurd (j (kind_is 8 q)))
          (branch (eqb x.kind 9) _ _ (λ q z. absurd (k (kind_is 9 q)))
          (branch (eqb x.kind 10) _ _ (λ q z. absurd (l (kind_is 10 q)))
          (branch (eqb x.kind 11) _ _ (λ q z. kind_is 11 q)
          (λ z. absurd (none-ne-some t z))))))))))))
          made
