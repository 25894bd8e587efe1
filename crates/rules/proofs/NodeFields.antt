-- Each node of an accepted form has its field: the one whose tree the node's tree is part of.
use mathlib.Core.Bool.{Bool, true, false, ◌||◌, false≢true, true≢false}
use mathlib.Core.List.{List, [], ◌∷◌, ◌++◌}
use mathlib.Core.Logic.{◌⊎◌, inl, inr, ⊎_elim}
use mathlib.Core.Option.{some, none, some-injective, none-ne-some}
use mathlib.Core.Path.{◌≡◌, refl, sym, ap, ◌∙◌, subst}
use Prim.Native.Nat.{ℕ, zero, suc, ◌+◌, ◌≤◌, ◌<◌}
use native.Mathlib.Omega.{arith}
use lib.Dec.{eqb}
use lib.ListN.{length, get_elem?}
use borrow.Author.Tests.{ne_eqb, eqb-true, eqb-false}
use Rattle.std.specs.Prelude.{if◌then◌else◌}
use Rattle.rules.specs.Base.{contains, occurrences, numbers, concat_map}
use Rattle.rules.specs.Form.{Node, Form, read_form}
use Rattle.rules.specs.Tree.{Tree}
use Rattle.rules.specs.Accept.{Accepted, accepted, check_form, trees_at, children_of, uses, used_once, top_from, top_of, index_of, field_of}
use Rattle.rules.specs.Demands.{All}
use Rattle.rules.specs.Marks.{PartOf, whole, of_optional, of_many, of_some, of_count, of_last, of_first, of_second, of_fallback, of_guard, HasField}
use Rattle.rules.proofs.Acceptance.{Made, flag_made, argument_made, positional_made, optional_made, many_made, some_made, count_made, last_made, choice_made, fallback_made, guard_made}
use Rattle.rules.proofs.Acceptance.{TreesAt, trees_made, trees_length, fields_step, no_fault, lookup_inside, lookup_some, numbers_all, Passed, accepted_passed, accepted_form, accepted_trees}
use Rattle.rules.proofs.ContainsLaws.{contains_append}
use Rattle.rules.proofs.Uses.{children_lower, used_once_lem}

-- ---- parts of trees
part_again : {t u v : Tree} → PartOf t u → PartOf u v → PartOf t v
part_again p whole = p
part_again p (of_optional q) = of_optional (part_again p q)
part_again p (of_many q) = of_many (part_again p q)
part_again p (of_some q) = of_some (part_again p q)
part_again p (of_count q) = of_count (part_again p q)
part_again p (of_last q) = of_last (part_again p q)
part_again p (of_first q) = of_first (part_again p q)
part_again p (of_second q) = of_second (part_again p q)
part_again p (of_fallback q) = of_fallback (part_again p q)
part_again p (of_guard q) = of_guard (part_again p q)

-- the tree of a child is part of that of its node
module _ (f : Form) (ts : List Tree) (k : ℕ) (x : Node) (c : ℕ) (t : Tree) (here : get_elem? ts c ≡ some t) where
  same_part : (p : ℕ) (d : Tree) → get_elem? ts p ≡ some d → eqb p c ≡ true → PartOf t d
  same_part p d e h =
      let same : t ≡ d = some-injective t d (sym here ∙ ap (get_elem? ts) (sym (eqb-true p c h)) ∙ e) in
      subst (PartOf t) same whole

  one_part : (d : Tree) → get_elem? ts x.p ≡ some d → contains (x.p ∷ []) c ≡ true → PartOf t d
  unfolding contains
  one_part d e h = go (eqb x.p c) refl h
    where
      go : (b : Bool) → eqb x.p c ≡ b → (b || false) ≡ true → PartOf t d
      go true q h = same_part x.p d e q
      go false q h = absurd (false≢true h)

  two_part :
      (d g : Tree)
      → get_elem? ts x.p ≡ some d
      → get_elem? ts x.q ≡ some g
      → contains (x.p ∷ x.q ∷ []) c ≡ true
      → PartOf t d ⊎ PartOf t g
  unfolding contains
  two_part d g e w h = go (eqb x.p c) (eqb x.q c) refl refl h
    where
      go : (a b : Bool) → eqb x.p c ≡ a → eqb x.q c ≡ b → (a || (b || false)) ≡ true → PartOf t d ⊎ PartOf t g
      go true b q r h = inl (same_part x.p d e q)
      go false true q r h = inr (same_part x.q g w r)
      go false false q r h = absurd (false≢true h)

  made_part : (u : Tree) → Made f ts k x u → contains (children_of x) c ≡ true → PartOf t u
  unfolding children_of contains
  made_part u (flag_made l z r o n) h = absurd (false≢true (rw z at h))
  made_part u (argument_made l z r o n) h = absurd (false≢true (rw z at h))
  made_part u (positional_made z p r o) h = absurd (false≢true (rw z at h))
  made_part u (optional_made b d z r o e n) h = of_optional (one_part d e.1 (rw z at h))
  made_part u (many_made b d z r o e a n) h = of_many (one_part d e.1 (rw z at h))
  made_part u (some_made b d z r o e a n) h = of_some (one_part d e.1 (rw z at h))
  made_part u (count_made d z o e a n) h = of_count (one_part d e.1 (rw z at h))
  made_part u (last_made d z o e a n) h = of_last (one_part d e.1 (rw z at h))
  made_part u (choice_made d g z o e w n) h = ⊎_elim of_first of_second (two_part d g e.1 w.1 (rw z at h))
  made_part u (fallback_made d κ v z o e g w n) h = of_fallback (one_part d e.1 (rw z at h))
  made_part u (guard_made d z o e s n) h = of_guard (one_part d e.1 (rw z at h))

-- ---- from a node up
not_contained : (ks : List ℕ) (m n : ℕ) → All (λ (i : ℕ). i < m) ks → m ≤ n → contains ks n ≡ false
unfolding contains
not_contained [] m n h l = refl
not_contained (k ∷ ks) m n h l =
    let less = h.0 in
    rw (ne_eqb k n (λ e. omega arith), not_contained ks m n h.1 l)

-- where the way up through the nodes from m on ends: at no child of theirs
record Top (ts : List Tree) (m c : ℕ) (xs : List Node) (t : Tree) (top : ℕ) : Type 0 where
  childless : contains (concat_map children_of xs) top ≡ false
  upward : (top ≡ c) ⊎ (m ≤ top)
  tree : Tree
  stands : get_elem? ts top ≡ some tree
  part : PartOf t tree

module _ (f : Form) (ts : List Tree) (m c : ℕ) (x : Node) (xs : List Node) (t : Tree) (h : TreesAt f ts m (x ∷ xs)) (e : get_elem? ts c ≡ some t) where
  -- behind the node, no child of it is met again
  passed :
      (top d : ℕ) (u : Tree)
      → Top ts (suc m) d xs u top
      → PartOf t u
      → contains (children_of x) top ≡ false
      → (top ≡ c) ⊎ (m ≤ top)
      → Top ts m c (x ∷ xs) t top
  unfolding concat_map
  passed top d u r p apart up = record {
    childless = contains_append (children_of x) (concat_map children_of xs) top ∙ rw (apart, r.childless);
    upward = up;
    tree = r.tree;
    stands = r.stands;
    part = part_again p r.part;
  }

  above : (top : ℕ) → m ≤ top → contains (children_of x) top ≡ false
  above top l = not_contained (children_of x) m top (children_lower f ts m x h.0.tree h.0.made) l

  -- the node has it as a child
  to_node : (top : ℕ) → contains (children_of x) c ≡ true → Top ts (suc m) m xs h.0.tree top → Top ts m c (x ∷ xs) t top
  to_node top q r =
      let up : m ≤ top = ⊎_elim (λ (z : top ≡ m). omega arith) (λ (z : suc m ≤ top). omega arith) r.upward in
      passed top m h.0.tree r (made_part f ts m x c t e h.0.tree h.0.made q) (above top up) (inr up)

  -- it has not
  past_node : (top : ℕ) → contains (children_of x) c ≡ false → Top ts (suc m) c xs t top → Top ts m c (x ∷ xs) t top
  past_node top q r =
      passed top c t r whole
      (⊎_elim (λ (z : top ≡ c). rw z q) (λ (z : suc m ≤ top). above top (omega arith)) r.upward)
      (⊎_elim (λ (z : top ≡ c). inl z) (λ (z : suc m ≤ top). inr (omega arith)) r.upward)

top_of_lem : (f : Form) (ts : List Tree) (m c : ℕ) (xs : List Node) (t : Tree) → TreesAt f ts m xs → get_elem? ts c ≡ some t → Top ts m c xs t (top_from m c xs)
unfolding top_from concat_map contains
top_of_lem f ts m c [] t h e = record { childless = refl; upward = inl refl; tree = t; stands = e; part = whole }
top_of_lem f ts m c (x ∷ xs) t h e = go (contains (children_of x) c) refl (λ d u. top_of_lem f ts (suc m) d xs u h.1)
  where
    go :
        (b : Bool)
        → contains (children_of x) c ≡ b
        → ((d : ℕ) (u : Tree) → get_elem? ts d ≡ some u → Top ts (suc m) d xs u (top_from (suc m) d xs))
        → Top ts m c (x ∷ xs) t (top_from (suc m) (if b then m else c) xs)
    go true q rest = to_node f ts m c x xs t h e _ q (rest m h.0.tree h.0.stands)
    go false q rest = past_node f ts m c x xs t h e _ q (rest c t e)

-- ---- what is used once, and is no child, is a field
occurs_append : (n : ℕ) (ks ls : List ℕ) → occurrences n (ks ++ ls) ≡ occurrences n ks + occurrences n ls
unfolding occurrences
occurs_append n [] ls = omega arith
occurs_append n (k ∷ ks) ls = go (eqb n k) (occurs_append n ks ls)
  where
    go :
        (b : Bool)
        → occurrences n (ks ++ ls) ≡ occurrences n ks + occurrences n ls
        → (if b then suc (occurrences n (ks ++ ls)) else occurrences n (ks ++ ls))
        ≡ (if b then suc (occurrences n ks) else occurrences n ks) + occurrences n ls
    go true h = omega arith
    go false h = omega arith

none_occurs : (n : ℕ) (ks : List ℕ) → contains ks n ≡ false → occurrences n ks ≡ 0
unfolding contains occurrences
none_occurs n [] h = refl
none_occurs n (k ∷ ks) h = go (eqb k n) refl (none_occurs n ks) h
  where
    go :
        (b : Bool)
        → eqb k n ≡ b
        → (contains ks n ≡ false → occurrences n ks ≡ 0)
        → (b || contains ks n) ≡ false
        → (if eqb n k then suc (occurrences n ks) else occurrences n ks) ≡ 0
    go true q rest h = absurd (true≢false h)
    go false q rest h = let other = eqb-false k n q in rw (ne_eqb n k (λ z. other (sym z))) (rest h)

-- the first of them
index_at : (n : ℕ) (ks : List ℕ) → (occurrences n ks ≡ 0 → ⊥) → get_elem? ks (index_of n ks) ≡ some n
unfolding index_of occurrences
index_at n [] h = absurd (h refl)
index_at n (k ∷ ks) h = go (eqb n k) refl h (index_at n ks)
  where
    go :
        (b : Bool)
        → eqb n k ≡ b
        → ((if b then suc (occurrences n ks) else occurrences n ks) ≡ 0 → ⊥)
        → ((occurrences n ks ≡ 0 → ⊥) → get_elem? ks (index_of n ks) ≡ some n)
        → get_elem? (k ∷ ks) (if b then 0 else suc (index_of n ks)) ≡ some n
    go true q h rest = ap some (sym (eqb-true n k q))
    go false q h rest = rest h

fields_at :
    (ts : List Tree) (ks : List ℕ) (us : List Tree) (i k : ℕ)
    → trees_at ts ks ≡ some us
    → get_elem? ks i ≡ some k
    → get_elem? us i ≡ get_elem? ts k
fields_at ts [] us i k e h = absurd (none-ne-some k h)
fields_at ts (l ∷ ks) us zero k e h =
    let (t, vs, stands, rest, same) = fields_step ts l ks us e in
    rw (← same, ← some-injective l k h) (sym stands)
fields_at ts (l ∷ ks) us (suc i) k e h =
    let (t, vs, stands, rest, same) = fields_step ts l ks us e in
    rw (← same) (fields_at ts ks vs i k rest h)

passed_field :
    (f : Form) (a : Accepted)
    → Passed f a
    → (k : ℕ) (t : Tree)
    → get_elem? a.trees k ≡ some t
    → (u : Tree) × (get_elem? a.fields (field_of f k) ≡ some u) × PartOf t u
unfolding field_of top_of uses
passed_field f a p k t e =
    let ts = a.trees in
    let top = top_from 0 k f.nodes in
    let n = length f.nodes in
    let r = top_of_lem f ts 0 k f.nodes t (trees_made f [] f.nodes ts p.trees) e in
    let inside = lookup_inside ts top r.tree r.stands in
    let long = trees_length f [] f.nodes ts p.trees in
    let all = used_once_lem f (numbers n 0) (no_fault (used_once f) 0 (numbers n 0) p.once) in
    let once = numbers_all (λ (i : ℕ). occurrences i (uses f) ≡ 1) n 0 all top (omega arith) (omega arith) in
    let apart = occurs_append top f.fields (concat_map children_of f.nodes) in
    let none = none_occurs top (concat_map children_of f.nodes) r.childless in
    let at = index_at top f.fields (λ z. omega arith) in
    (r.tree, fields_at ts f.fields a.fields (index_of top f.fields) top p.fields at ∙ r.stands, r.part)

module _ (b : List ℕ) (a : Accepted) (accepts : check_form b ≡ accepted a) where
  pub node_field : (k : ℕ) (t : Tree) → get_elem? a.trees k ≡ some t → HasField a k t
  node_field k t e =
      let (u, stands, part) = passed_field (read_form b) a (accepted_passed b a accepts) k t e in
      record {
        tree = u;
        stands = ap (λ (f : Form). get_elem? a.fields (field_of f k)) (accepted_form b a accepts) ∙ stands;
        part = part;
      }

  pub field_below : (k : ℕ) → k < length a.form.nodes → field_of a.form k < length a.fields
  field_below k h =
      let (t, e) = lookup_some a.trees k (omega (arith, accepted_trees b a accepts)) in
      let x = node_field k t e in
      lookup_inside a.fields (field_of a.form k) x.tree x.stands
