-- Which nodes give lists: a node's kind number, and the node beneath an optional or a choice.
use mathlib.Core.Bool.{true, false, false≢true}
use mathlib.Core.List.{List, [], ◌∷◌}
use mathlib.Core.Logic.{◌⊎◌, inl, inr, ⊎_elim}
use mathlib.Core.Option.{Option, some, none, some-injective, none-ne-some}
use mathlib.Core.Path.{◌≡◌, refl, sym, ap, ◌∙◌, subst}
use Prim.Native.Nat.{ℕ, zero, suc, ◌+◌, ◌≤◌, ◌<◌}
use native.Mathlib.Nat.{zero-add}
use native.Mathlib.Omega.{arith}
use lib.ListN.{get_elem?}
use Rattle.rules.specs.Base.{is_some, ◌>>?◌}
use Rattle.rules.specs.Value.{Kind, one, optional, list, list_of_optional, optional_list}
use Rattle.rules.specs.Form.{Node, Form, read_form}
use Rattle.rules.specs.Tree.{Tree, optional_kind, list_kind, count_kind, last_kind, shape_of, kind_of}
use Rattle.rules.specs.Accept.{Accepted, accepted, check_form}
use Rattle.rules.proofs.Acceptance.{Made, flag_made, argument_made, positional_made, optional_made, many_made, some_made, count_made, last_made, choice_made, fallback_made, guard_made}
use Rattle.rules.proofs.Acceptance.{Child, TreeAt}
use Rattle.rules.proofs.Acceptance.{TreesAt, trees_made, accepted_passed}
use Rattle.rules.proofs.KindLaws.{choice_kind_lem, base_kind_lem}
use Rattle.form_layout.specs.Layout.{node_of}
use Rattle.form_layout.specs.declared.Node as declared
use Rattle.eval_told.specs.Nodes.{tree_at, is_scalar}
use Rattle.eval_told.proofs.NodeLaw.{at_tree, tree_accepted}

-- ---- kinds
scalar_optional : (o : Option Kind) → is_some (o >>? optional_kind) ≡ true → is_scalar (o >>? optional_kind) ≡ is_scalar o
unfolding is_some ◌>>?◌ optional_kind is_scalar shape_of
scalar_optional none e = refl
scalar_optional (some (one b)) e = refl
scalar_optional (some (optional b)) e = absurd (false≢true e)
scalar_optional (some (list b)) e = refl
scalar_optional (some (list_of_optional b)) e = absurd (false≢true e)
scalar_optional (some (optional_list b)) e = absurd (false≢true e)

scalar_list : (o : Option Kind) → is_scalar (o >>? list_kind) ≡ false
unfolding ◌>>?◌ list_kind is_scalar shape_of
scalar_list none = refl
scalar_list (some (one b)) = refl
scalar_list (some (optional b)) = refl
scalar_list (some (list b)) = refl
scalar_list (some (list_of_optional b)) = refl
scalar_list (some (optional_list b)) = refl

scalar_last : (o : Option Kind) → is_some (o >>? last_kind) ≡ true → is_scalar (o >>? last_kind) ≡ true
unfolding is_some ◌>>?◌ last_kind list_kind is_scalar shape_of
scalar_last none e = absurd (false≢true e)
scalar_last (some (one b)) e = refl
scalar_last (some (optional b)) e = refl
scalar_last (some (list b)) e = absurd (false≢true e)
scalar_last (some (list_of_optional b)) e = absurd (false≢true e)
scalar_last (some (optional_list b)) e = absurd (false≢true e)

scalar_count : (o : Option Kind) → is_some (o >>? count_kind) ≡ true → is_scalar (o >>? count_kind) ≡ true
unfolding is_some ◌>>?◌ count_kind list_kind is_scalar shape_of
scalar_count none e = absurd (false≢true e)
scalar_count (some (one b)) e = refl
scalar_count (some (optional b)) e = refl
scalar_count (some (list b)) e = absurd (false≢true e)
scalar_count (some (list_of_optional b)) e = absurd (false≢true e)
scalar_count (some (optional_list b)) e = absurd (false≢true e)

-- ---- nodes by their kind number
-- through an optional or a choice to a child; a list; neither
data Shape (ts : List Tree) (k : ℕ) (x : Node) (t : Tree) : Type 0 where
  through : (c : Tree) → (x.kind ≡ 4) ⊎ (x.kind ≡ 9) → Child ts k x.p c → is_scalar (kind_of t) ≡ is_scalar (kind_of c) → Shape ts k x t
  listed : (x.kind ≡ 5) ⊎ (x.kind ≡ 6) → is_scalar (kind_of t) ≡ false → Shape ts k x t
  single : (n : ℕ) → x.kind ≡ n → (n ≤ 3) ⊎ (7 ≤ n) → (n ≡ 9 → ⊥) → is_scalar (kind_of t) ≡ true → Shape ts k x t

made_shape : (f : Form) (ts : List Tree) (k : ℕ) (x : Node) (t : Tree) → Made f ts k x t → Shape ts k x t
unfolding kind_of is_scalar shape_of
made_shape f ts k x t (flag_made l z r u n) = single 1 z (inl (omega arith)) (λ e. omega arith) refl
made_shape f ts k x t (argument_made l z r u n) = single 2 z (inl (omega arith)) (λ e. omega arith) refl
made_shape f ts k x t (positional_made z p r u) = single 3 z (inl (omega arith)) (λ e. omega arith) refl
made_shape f ts k x t (optional_made b c z r u h e) = through c (inl z) h (scalar_optional (kind_of c) e)
made_shape f ts k x t (many_made b c z r u h a e) = listed (inl z) (scalar_list (kind_of c))
made_shape f ts k x t (some_made b c z r u h a e) = listed (inr z) (scalar_list (kind_of c))
made_shape f ts k x t (count_made c z u h a e) = single 7 z (inr (omega arith)) (λ y. omega arith) (scalar_count (kind_of c) e)
made_shape f ts k x t (last_made c z u h a e) = single 8 z (inr (omega arith)) (λ y. omega arith) (scalar_last (kind_of c) e)
made_shape f ts k x t (choice_made c d z u h g e) = through c (inr z) h (ap is_scalar (choice_kind_lem (kind_of c) (kind_of d) e).0)
made_shape f ts k x t (fallback_made c κ v z u h g w e) = single 10 z (inr (omega arith)) (λ y. omega arith) (ap is_scalar ((base_kind_lem _ (kind_of c) e).0 ∙ (base_kind_lem _ (kind_of c) e).1))
made_shape f ts k x t (guard_made c z u h s e) = single 11 z (inr (omega arith)) (λ y. omega arith) (ap is_scalar ((base_kind_lem _ (kind_of c) e).0 ∙ (base_kind_lem _ (kind_of c) e).1))

made_at :
    (f : Form) (ts : List Tree) (j : ℕ) (xs : List Node)
    → TreesAt f ts j xs
    → (k : ℕ) (x : Node)
    → get_elem? xs k ≡ some x
    → TreeAt f ts (j + k) x
made_at f ts j [] h k x e = absurd (none-ne-some x e)
made_at f ts j (y ∷ ys) h zero x e =
    let same : y ≡ x = some-injective y x e in
    let here : j ≡ j + 0 = omega arith in
    subst (λ (i : ℕ). TreeAt f ts i x) here (subst (λ (z : Node). TreeAt f ts j z) same h.0)
made_at f ts j (y ∷ ys) h (suc k) x e =
    let there : suc j + k ≡ j + suc k = omega arith in
    subst (λ (i : ℕ). TreeAt f ts i x) there (made_at f ts (suc j) ys h.1 k x e)

module _ (b : List ℕ) (k : ℕ) (t : Tree) (h : tree_at b k ≡ some t) where
  module _ (x : declared.Node) (s : get_elem? (read_form b).nodes k ≡ some (node_of x)) where
    -- the accepted form, and the shape of the node
    shape_at : (a : Accepted) × (check_form b ≡ accepted a) × Shape a.trees k (node_of x) t
    shape_at =
        let (a, e, g) = tree_accepted b k t h in
        let p = accepted_passed b a e in
        let f = read_form b in
        let made = made_at f a.trees 0 f.nodes (trees_made f [] f.nodes a.trees p.trees) k (node_of x) s in
        let here : TreeAt f a.trees k (node_of x) = subst (λ (i : ℕ). TreeAt f a.trees i (node_of x)) (zero-add k) made in
        let same : here.tree ≡ t = some-injective _ t (sym here.stands ∙ g) in
        (a, e, made_shape f a.trees k (node_of x) t (subst (Made f a.trees k (node_of x)) same here.made))

    -- the child of an optional or a choice
    pub record Beneath : Type 0 where
      pub tree : Tree
      pub node : tree_at b x.p ≡ some tree
      pub lower : x.p < k
      pub same : is_scalar (kind_of t) ≡ is_scalar (kind_of tree)

    pub beneath : ((node_of x).kind ≡ 4) ⊎ ((node_of x).kind ≡ 9) → Beneath
    beneath z = let (a, e, w) = shape_at in go a e w
      where
        go : (a : Accepted) → check_form b ≡ accepted a → Shape a.trees k (node_of x) t → Beneath
        go a e (through c y i q) = record { tree = c; node = at_tree b a e x.p ∙ i.1; lower = i.0; same = q }
        go a e (listed y q) =
            absurd
            (⊎_elim (λ (u : (node_of x).kind ≡ 4). ⊎_elim (λ v. omega arith) (λ v. omega arith) y) (λ (u : (node_of x).kind ≡ 9). ⊎_elim (λ v. omega arith) (λ v. omega arith) y) z)
        go a e (single n y o u q) = absurd (⊎_elim (λ (v : (node_of x).kind ≡ 4). ⊎_elim (λ w. omega arith) (λ w. omega arith) o) (λ (v : (node_of x).kind ≡ 9). u (sym y ∙ v)) z)

    pub list_here : ((node_of x).kind ≡ 5) ⊎ ((node_of x).kind ≡ 6) → false ≡ is_scalar (kind_of t)
    list_here l = let (a, e, w) = shape_at in go a w
      where
        go : (a : Accepted) → Shape a.trees k (node_of x) t → false ≡ is_scalar (kind_of t)
        go a (through c y i q) = absurd (⊎_elim (λ v. ⊎_elim (λ w. omega arith) (λ w. omega arith) y) (λ v. ⊎_elim (λ w. omega arith) (λ w. omega arith) y) l)
        go a (listed y q) = sym q
        go a (single i y o u q) = absurd (⊎_elim (λ v. ⊎_elim (λ w. omega arith) (λ w. omega arith) o) (λ v. ⊎_elim (λ w. omega arith) (λ w. omega arith) o) l)

    module _ (optional : (node_of x).kind ≡ 4 → ⊥) (many : (node_of x).kind ≡ 5 → ⊥) (some : (node_of x).kind ≡ 6 → ⊥) (choice : (node_of x).kind ≡ 9 → ⊥) where
      pub single_here : true ≡ is_scalar (kind_of t)
      single_here = let (a, e, w) = shape_at in go a w
        where
          go : (a : Accepted) → Shape a.trees k (node_of x) t → true ≡ is_scalar (kind_of t)
          go a (through c y i q) = absurd (⊎_elim optional choice y)
          go a (listed y q) = absurd (⊎_elim many some y)
          go a (single i y o u q) = sym q

-- ---- the walk from a node down through optionals and choices
pub record Walked (b : List ℕ) (node n : ℕ) : Type 0 where
  pub tree : Tree
  pub here : tree_at b n ≡ some tree
  pub same : (t : Tree) → tree_at b node ≡ some t → is_scalar (kind_of t) ≡ is_scalar (kind_of tree)

pub walked_first : (b : List ℕ) (node : ℕ) → ((t : Tree) × (tree_at b node ≡ some t)) → Walked b node node
walked_first b node (t, h) = record {
  tree = t;
  here = h;
  same = λ u e. ap (λ (v : Tree). is_scalar (kind_of v)) (some-injective u t (sym e ∙ h));
}

module _ (b : List ℕ) (node n : ℕ) (w : Walked b node n) (x : declared.Node) (s : get_elem? (read_form b).nodes n ≡ some (node_of x)) where
  pub walked_less : ((node_of x).kind ≡ 4) ⊎ ((node_of x).kind ≡ 9) → x.p < n
  walked_less z = (beneath b n w.tree w.here x s z).lower

  pub walked_next : ((node_of x).kind ≡ 4) ⊎ ((node_of x).kind ≡ 9) → Walked b node x.p
  walked_next z =
      let under = beneath b n w.tree w.here x s z in
      record { tree = under.tree; here = under.node; same = λ t h. w.same t h ∙ under.same }
