-- Each node is used exactly once: the leaves of the fields' trees are the flags, arguments and positionals of the form.
use mathlib.Core.Bool.{Bool, true, false}
use mathlib.Core.List.{List, [], ◌∷◌, ◌++◌}
use mathlib.Core.Logic.{⊎_elim}
use mathlib.Core.Option.{some, none, some-injective}
use mathlib.Core.Path.{◌≡◌, refl, sym, ◌∙◌, ap, subst, fun_ext}
use Prim.Native.Nat.{ℕ, zero, suc, ◌+◌, ◌*◌, ◌≤◌, ◌<◌}
use native.Mathlib.Nat.{eq-or-lt_of_le, zero-add}
use native.Mathlib.Omega.{arith}
use lib.Dec.{leb, eqb}
use lib.ListN.{length, get_elem?}
use borrow.Author.Tests.{eq-eqb, ne_eqb, eqb-true}
use Rattle.std.specs.Prelude.{if◌then◌else◌}
use Rattle.rules.specs.Base.{occurrences, numbers, concat_map}
use Rattle.rules.specs.Form.{Node, Form, read_form}
use Rattle.rules.specs.Tree.{Tree}
use Rattle.rules.specs.Accept.{Accepted, accepted, check_form, trees_at, children_of, uses, used_once, leaf_count}
use Rattle.rules.specs.Demands.{All}
use Rattle.rules.specs.Sound.{leaves, all_leaves}
use Rattle.rules.proofs.Acceptance.{Made, flag_made, argument_made, positional_made, optional_made, many_made, some_made, count_made, last_made, choice_made, fallback_made, guard_made}
use Rattle.rules.proofs.Acceptance.{Child}
use Rattle.rules.proofs.Acceptance.{TreesAt, trees_made, trees_length, fields_step, no_fault, lookup_inside, All-append, Passed, accepted_passed}

-- ---- sums over lists of numbers
unfoldable pub sum_over : (ℕ → ℕ) → List ℕ → ℕ
sum_over g [] = 0
sum_over g (k ∷ ks) = g k + sum_over g ks

pub sum_append : (g : ℕ → ℕ) (ks ls : List ℕ) → sum_over g (ks ++ ls) ≡ sum_over g ks + sum_over g ls
unfolding sum_over
sum_append g [] ls = omega arith
sum_append g (k ∷ ks) ls = let h = sum_append g ks ls in omega arith

sum_plus : (g h : ℕ → ℕ) (ks : List ℕ) → sum_over (λ k. g k + h k) ks ≡ sum_over g ks + sum_over h ks
unfolding sum_over
sum_plus g h [] = refl
sum_plus g h (k ∷ ks) = let r = sum_plus g h ks in omega arith

sum_zero : (g : ℕ → ℕ) (ks : List ℕ) → sum_over (λ k. 0 * g k) ks ≡ 0
unfolding sum_over
sum_zero g [] = refl
sum_zero g (k ∷ ks) = let r = sum_zero g ks in omega arith

sum_same : (g h : ℕ → ℕ) (ks : List ℕ) → All (λ (k : ℕ). g k ≡ h k) ks → sum_over g ks ≡ sum_over h ks
unfolding sum_over
sum_same g h [] e = refl
sum_same g h (k ∷ ks) e = let r = sum_same g h ks e.1 in let s = e.0 in omega arith

-- g at y alone
at : (ℕ → ℕ) → ℕ → ℕ → ℕ
at g y k = if eqb k y then g k else 0

module _ (g : ℕ → ℕ) (y : ℕ) where
  sum_before : (n k : ℕ) → y < k → sum_over (at g y) (numbers n k) ≡ 0
  unfolding sum_over numbers at
  sum_before zero k h = refl
  sum_before (suc n) k h =
      let r = sum_before n (suc k) (omega arith) in
      rw (ne_eqb k y (λ e. omega arith)) (omega arith)

  sum_at : (n k : ℕ) → k ≤ y → y < k + n → sum_over (at g y) (numbers n k) ≡ g y
  unfolding sum_over numbers at
  sum_at zero k h l = absurd (omega arith)
  sum_at (suc n) k h l =
      ⊎_elim
      (λ (e : k ≡ y). let r = sum_before n (suc k) (omega arith) in let s = ap g e in rw (eq-eqb k y e) (omega arith))
      (λ (e : k < y). let r = sum_at n (suc k) e (omega arith) in rw (ne_eqb k y (λ s. omega arith)) (omega arith))
      (eq-or-lt_of_le h)

-- a sum over numbers below n, by how often each occurs
times : (g : ℕ → ℕ) (y : ℕ) (ys : List ℕ) (k : ℕ) → occurrences k (y ∷ ys) * g k ≡ at g y k + occurrences k ys * g k
unfolding occurrences at
times g y ys k = go (eqb k y) refl
  where
    go : (b : Bool) → eqb k y ≡ b → occurrences k (y ∷ ys) * g k ≡ at g y k + occurrences k ys * g k
    go true e = rw e (omega arith)
    go false e = rw e (omega arith)

sum_by_uses :
    (g : ℕ → ℕ) (n : ℕ) (ks : List ℕ)
    → All (λ (k : ℕ). k < n) ks
    → sum_over (λ k. occurrences k ks * g k) (numbers n 0) ≡ sum_over g ks
unfolding occurrences sum_over
sum_by_uses g n [] h = sum_zero g (numbers n 0)
sum_by_uses g n (y ∷ ys) h =
    let l : y < 0 + n = omega (arith, h.0) in
    ap (λ (f : ℕ → ℕ). sum_over f (numbers n 0)) (fun_ext (times g y ys))
    ∙ sum_plus (at g y) (λ k. occurrences k ys * g k) (numbers n 0)
    ∙ rw (sum_at g y n 0 (omega arith) l, sum_by_uses g n ys h.1)

-- where each number below n occurs once, the sum is that over all of them
pub sum_once :
    (g : ℕ → ℕ) (n : ℕ) (ks : List ℕ)
    → All (λ (k : ℕ). k < n) ks
    → All (λ (k : ℕ). occurrences k ks ≡ 1) (numbers n 0)
    → sum_over g ks ≡ sum_over g (numbers n 0)
sum_once g n ks h e = sym (sum_by_uses g n ks h) ∙ sum_same (λ k. occurrences k ks * g k) g (numbers n 0) (once (numbers n 0) e)
  where
    once : (ls : List ℕ) → All (λ (k : ℕ). occurrences k ks ≡ 1) ls → All (λ (k : ℕ). occurrences k ks * g k ≡ g k) ls
    once [] e = tt
    once (k ∷ ls) e = (rw e.0 (omega arith), once ls e.1)

-- ---- the leaves of a node's tree
unfoldable pub leaves_at : List Tree → ℕ → ℕ
leaves_at ts k = elim (get_elem? ts k) [ none ↦ 0 | some t ↦ leaves t ]

leaves_at_lem : (ts : List Tree) (k : ℕ) (t : Tree) → get_elem? ts k ≡ some t → leaves_at ts k ≡ leaves t
unfolding leaves_at
leaves_at_lem ts k t e = rw (e, leaves_at)

-- a leaf's own, and the children, by the kind
own : ℕ → ℕ
own n = if leb n 3 then 1 else 0

children_by : ℕ → Node → List ℕ
children_by n x = if leb n 3 then [] else (if eqb n 9 then x.p ∷ x.q ∷ [] else x.p ∷ [])

module _ (f : Form) (ts : List Tree) (k : ℕ) (x : Node) where
  record Parts (t : Tree) (n : ℕ) : Type 0 where
    total : leaves t ≡ own n + sum_over (leaves_at ts) (children_by n x)
    lower : All (λ (i : ℕ). i < k) (children_by n x)

  leaf_parts : (t : Tree) (n : ℕ) → x.kind ≡ n → leaves t ≡ 1 → own n ≡ 1 → children_by n x ≡ [] → Parts t x.kind
  unfolding sum_over
  leaf_parts t n z l o e = subst (Parts t) (sym z) (record { total = rw e (omega arith); lower = rw e tt })

  child_parts :
      (t c : Tree) (n : ℕ)
      → x.kind ≡ n
      → Child ts k x.p c
      → leaves t ≡ leaves c
      → own n ≡ 0
      → children_by n x ≡ x.p ∷ []
      → Parts t x.kind
  unfolding sum_over
  child_parts t c n z h l o e =
      let s = leaves_at_lem ts x.p c h.1 in
      subst (Parts t) (sym z) (record { total = rw e (omega arith); lower = rw e (h.0, tt) })

  made_parts : (t : Tree) → Made f ts k x t → Parts t x.kind
  unfolding leaves own children_by sum_over
  made_parts t (flag_made l z r u n) = leaf_parts _ 1 z refl refl refl
  made_parts t (argument_made l z r u n) = leaf_parts _ 2 z refl refl refl
  made_parts t (positional_made z p r u) = leaf_parts _ 3 z refl refl refl
  made_parts t (optional_made b c z r u h e) = child_parts _ c 4 z h refl refl refl
  made_parts t (many_made b c z r u h a e) = child_parts _ c 5 z h refl refl refl
  made_parts t (some_made b c z r u h a e) = child_parts _ c 6 z h refl refl refl
  made_parts t (count_made c z u h a e) = child_parts _ c 7 z h refl refl refl
  made_parts t (last_made c z u h a e) = child_parts _ c 8 z h refl refl refl
  made_parts t (choice_made c d z u h g e) =
      let l = leaves_at_lem ts x.p c h.1 in
      let m = leaves_at_lem ts x.q d g.1 in
      subst (Parts _) (sym z) (record { total = omega arith; lower = (h.0, (g.0, tt)) })
  made_parts t (fallback_made c κ v z u h g w e) = child_parts _ c 10 z h refl refl refl
  made_parts t (guard_made c z u h s e) = child_parts _ c 11 z h refl refl refl

-- the children of a node have lower numbers
pub children_lower : (f : Form) (ts : List Tree) (k : ℕ) (x : Node) (t : Tree) → Made f ts k x t → All (λ (i : ℕ). i < k) (children_of x)
unfolding children_of children_by
children_lower f ts k x t m = (made_parts f ts k x t m).lower

-- ---- all nodes
count_own : (x : Node) (xs : List Node) → leaf_count (x ∷ xs) ≡ own x.kind + leaf_count xs
unfolding leaf_count own
count_own x xs = go (leb x.kind 3) refl
  where
    go : (b : Bool) → leb x.kind 3 ≡ b → leaf_count (x ∷ xs) ≡ own x.kind + leaf_count xs
    go true e = rw e (omega arith)
    go false e = rw e (omega arith)

All-below : (i j : ℕ) (ks : List ℕ) → i ≤ j → All (λ (k : ℕ). k < i) ks → All (λ (k : ℕ). k < j) ks
All-below i j [] h l = tt
All-below i j (k ∷ ks) h l = (omega (arith, l.0), All-below i j ks h l.1)

module _ (f : Form) (ts : List Tree) where
  children_sum :
      (k : ℕ) (xs : List Node)
      → TreesAt f ts k xs
      → sum_over (leaves_at ts) (numbers (length xs) k) ≡ leaf_count xs + sum_over (leaves_at ts) (concat_map children_of xs)
  unfolding numbers concat_map sum_over leaf_count children_of children_by
  children_sum k [] h = refl
  children_sum k (x ∷ xs) h =
      let n = h.0 in
      let p = made_parts f ts k x n.tree n.made in
      let t = p.total in
      let l = leaves_at_lem ts k n.tree n.stands in
      let s = sum_append (leaves_at ts) (children_of x) (concat_map children_of xs) in
      let r = children_sum (suc k) xs h.1 in
      let o = count_own x xs in
      omega arith

  children_inside : (k : ℕ) (xs : List Node) → TreesAt f ts k xs → All (λ (i : ℕ). i < length ts) (concat_map children_of xs)
  unfolding concat_map children_of children_by
  children_inside k [] h = tt
  children_inside k (x ∷ xs) h =
      let n = h.0 in
      let p = made_parts f ts k x n.tree n.made in
      let l = lookup_inside ts k n.tree n.stands in
      All-append (λ (i : ℕ). i < length ts) (children_of x) (concat_map children_of xs)
      (All-below k (length ts) (children_of x) (omega arith) p.lower)
      (children_inside (suc k) xs h.1)

-- ---- the fields
fields_leaves : (ts : List Tree) (ks : List ℕ) (us : List Tree) → trees_at ts ks ≡ some us → all_leaves us ≡ sum_over (leaves_at ts) ks
unfolding trees_at all_leaves sum_over
fields_leaves ts [] us e = sym (ap all_leaves (some-injective [] us e))
fields_leaves ts (k ∷ ks) us e =
    let (t, vs, h, r, same) = fields_step ts k ks us e in
    let l = leaves_at_lem ts k t h in
    let s = fields_leaves ts ks vs r in
    sym (ap all_leaves same) ∙ omega arith

pub fields_inside : (ts : List Tree) (ks : List ℕ) (us : List Tree) → trees_at ts ks ≡ some us → All (λ (k : ℕ). k < length ts) ks
fields_inside ts [] us e = tt
fields_inside ts (k ∷ ks) us e =
    let (t, vs, h, r, same) = fields_step ts k ks us e in
    (lookup_inside ts k t h, fields_inside ts ks vs r)

-- each node is used once
pub used_once_lem : (f : Form) (ks : List ℕ) → All (λ (k : ℕ). used_once f k ≡ true) ks → All (λ (k : ℕ). occurrences k (uses f) ≡ 1) ks
unfolding used_once
used_once_lem f [] h = tt
used_once_lem f (k ∷ ks) h = (eqb-true (occurrences k (uses f)) 1 h.0, used_once_lem f ks h.1)

passed_leaves : (f : Form) (a : Accepted) → Passed f a → all_leaves a.fields ≡ leaf_count f.nodes
unfolding uses
passed_leaves f a p =
    let ts = a.trees in
    let children = concat_map children_of f.nodes in
    let long : length ts ≡ length f.nodes = trees_length f [] f.nodes ts p.trees ∙ zero-add (length f.nodes) in
    let at : TreesAt f ts 0 f.nodes = trees_made f [] f.nodes ts p.trees in
    let inside : All (λ (k : ℕ). k < length ts) (uses f) =
    All-append (λ (k : ℕ). k < length ts) f.fields children
    (fields_inside ts f.fields a.fields p.fields)
    (children_inside f ts 0 f.nodes at) in
    let once : All (λ (k : ℕ). occurrences k (uses f) ≡ 1) (numbers (length f.nodes) 0) =
    used_once_lem f (numbers (length f.nodes) 0) (no_fault (used_once f) 0 (numbers (length f.nodes) 0) p.once) in
    let all : sum_over (leaves_at ts) (f.fields ++ children) ≡ sum_over (leaves_at ts) (numbers (length f.nodes) 0) =
    sum_once (leaves_at ts) (length f.nodes) (uses f) (All-below (length ts) (length f.nodes) (uses f) (omega arith) inside) once in
    let split = sum_append (leaves_at ts) f.fields children in
    let total = children_sum f ts 0 f.nodes at in
    let fields = fields_leaves ts f.fields a.fields p.fields in
    omega arith

-- L of an accepted form is the number of leaves of its fields' trees
pub leaves_law : (b : List ℕ) (a : Accepted) → check_form b ≡ accepted a → all_leaves a.fields ≡ leaf_count a.form.nodes
leaves_law b a e =
    let p = accepted_passed b a e in
    passed_leaves (read_form b) a p ∙ ap (λ (f : Form). leaf_count f.nodes) (sym p.form)

-- and no more than its nodes
pub leaf_few : (xs : List Node) → leaf_count xs ≤ length xs
unfolding leaf_count
leaf_few [] = omega arith
leaf_few (x ∷ xs) = go (leb x.kind 3) refl (leaf_few xs)
  where
    go : (t : Bool) → leb x.kind 3 ≡ t → leaf_count xs ≤ length xs → leaf_count (x ∷ xs) ≤ suc (length xs)
    go true e h = rw e (omega arith)
    go false e h = rw e (omega arith)
