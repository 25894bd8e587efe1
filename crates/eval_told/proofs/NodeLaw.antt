-- What acceptance says of a node: its tree is made of those below it.
use mathlib.Core.List.{List, [], ◌∷◌, ◌++◌}
use mathlib.Core.Option.{some, none, some-injective, none-ne-some}
use mathlib.Core.Path.{◌≡◌, refl, sym, ◌∙◌, ap, subst}
use Prim.Native.Nat.{ℕ, zero, suc, ◌+◌}
use native.Mathlib.Nat.{zero-add}
use native.Mathlib.Omega.{arith}
use lib.ListN.{length, take, get_elem?}
use Rattle.rules.specs.Form.{Node, Form, read_form}
use Rattle.rules.specs.Tree.{Tree, tree_of}
use Rattle.rules.specs.Accept.{Checked, Accepted, accepted, refused_at, check_form, trees_from}
use Rattle.rules.specs.Sound.{Sound}
use Rattle.rules.proofs.Acceptance.{trees_step, trees_grow, lookup_end, All-at, accepted_passed, accepted_trees_sound}
use Rattle.eval_told.specs.Nodes.{tree_at}

take_front : {A : Type 0} (w l : List A) → take (length w) (w ++ l) ≡ w
take_front [] l = refl
take_front (x ∷ w) l = ap (λ t. x ∷ t) (take_front w l)

append_one : {A : Type 0} (l : List A) (x : A) (m : List A) → (l ++ (x ∷ [])) ++ m ≡ l ++ (x ∷ m)
append_one [] x m = refl
append_one (y ∷ l) x m = ap (λ t. y ∷ t) (append_one l x m)

length_one : {A : Type 0} (l : List A) (x : A) → length (l ++ (x ∷ [])) ≡ suc (length l)
length_one [] x = refl
length_one (y ∷ l) x = ap suc (length_one l x)

-- the tree of node k, made of those below it
pub record Grown (f : Form) (ts : List Tree) (k : ℕ) (x : Node) : Type 0 where
  pub tree : Tree
  pub stands : get_elem? ts k ≡ some tree
  pub made : tree_of f (take k ts) x ≡ some tree

abbrev GrownFrom : Form → List Tree → ℕ → List Node → Type 0
GrownFrom f ts k [] = Unit {0}
GrownFrom f ts k (x ∷ xs) = Grown f ts k x × GrownFrom f ts (suc k) xs

trees_grown :
    (f : Form) (below : List Tree) (xs : List Node) (ts : List Tree)
    → trees_from f below xs ≡ accepted ts
    → GrownFrom f ts (length below) xs
trees_grown f below [] ts e = tt
trees_grown f below (x ∷ xs) ts e =
    let (t, h, g) = trees_step f below x xs ts e in
    let (more, r) = trees_grow f (below ++ (t ∷ [])) xs ts g in
    let same : below ++ (t ∷ more) ≡ ts = sym (append_one below t more) ∙ r in (
      record {
        tree = t;
        stands = subst (λ (l : List Tree). get_elem? l (length below) ≡ some t) same (lookup_end below t more);
        made = subst (λ (l : List Tree). tree_of f (take (length below) l) x ≡ some t) same (rw (take_front below (t ∷ more)) h);
      },
      subst (λ (k : ℕ). GrownFrom f ts k xs) (length_one below t) (trees_grown f (below ++ (t ∷ [])) xs ts g),
    )

grown_at :
    (f : Form) (ts : List Tree) (j : ℕ) (xs : List Node)
    → GrownFrom f ts j xs
    → (k : ℕ) (x : Node)
    → get_elem? xs k ≡ some x
    → Grown f ts (j + k) x
grown_at f ts j [] h k x e = absurd (none-ne-some x e)
grown_at f ts j (y ∷ ys) h zero x e =
    let same : y ≡ x = some-injective y x e in
    let here : j ≡ j + 0 = omega arith in
    subst (λ (i : ℕ). Grown f ts i x) here (subst (λ (z : Node). Grown f ts j z) same h.0)
grown_at f ts j (y ∷ ys) h (suc k) x e =
    let there : suc j + k ≡ j + suc k = omega arith in
    subst (λ (i : ℕ). Grown f ts i x) there (grown_at f ts (suc j) ys h.1 k x e)

-- ---- the tree of a node of an accepted form
module _ (b : List ℕ) (a : Accepted) (e : check_form b ≡ accepted a) where
  pub node_tree : (k : ℕ) (x : Node) → get_elem? (read_form b).nodes k ≡ some x → Grown (read_form b) a.trees k x
  node_tree k x h =
      let p = accepted_passed b a e in
      subst (λ (i : ℕ). Grown (read_form b) a.trees i x) (zero-add k)
      (grown_at (read_form b) a.trees 0 (read_form b).nodes (trees_grown (read_form b) [] (read_form b).nodes a.trees p.trees) k x h)

  pub tree_sound : (k : ℕ) (t : Tree) → get_elem? a.trees k ≡ some t → Sound t
  tree_sound k t h = All-at Sound a.trees k t (accepted_trees_sound b a e) h

  pub at_tree : (k : ℕ) → tree_at b k ≡ get_elem? a.trees k
  unfolding tree_at
  at_tree k = rw (e, tree_at)

-- a node that has a tree is one of an accepted form
pub tree_accepted : (b : List ℕ) (k : ℕ) (t : Tree) → tree_at b k ≡ some t → (a : Accepted) × (check_form b ≡ accepted a) × (get_elem? a.trees k ≡ some t)
unfolding tree_at
tree_accepted b k t h = go (check_form b) refl h
  where
    go :
        (c : Checked Accepted)
        → check_form b ≡ c
        → (elim c [ accepted a ↦ get_elem? a.trees k | refused_at n i ↦ none ]) ≡ some t
        → (a : Accepted) × (check_form b ≡ accepted a) × (get_elem? a.trees k ≡ some t)
    go (accepted a) e h = (a, e, h)
    go (refused_at n i) e h = absurd (none-ne-some t h)
