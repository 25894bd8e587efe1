-- The tree of a node whose value is a list, by the node's numbers.
use mathlib.Core.Bool.{Bool, true, false, false≢true}
use mathlib.Core.List.{List, [], ◌∷◌}
use mathlib.Core.Option.{Option, some, none, some-injective, none-ne-some}
use mathlib.Core.Path.{◌≡◌, refl, sym, ◌∙◌}
use Prim.Native.Nat.{ℕ, zero, suc, ◌<◌}
use native.Mathlib.Omega.{arith}
use lib.Dec.{eqb, leb}
use lib.ListN.{length, take, get_elem?}
use Rattle.rules.specs.Base.{is_some, ◌>>?◌}
use Rattle.rules.specs.Value.{Base, Kind, one, optional, list, list_of_optional, optional_list, base_of, number}
use Rattle.rules.specs.Form.{Node, Form, read_form}
use Rattle.rules.specs.Tree.{Tree, Many, Some, kind_of, shape_of, has_repeat, optional_kind, list_kind, count_kind, last_kind, base_kind, zeros, fitting, repeat_of, child_of, caught_of}
use Rattle.rules.specs.Tree.{tree_of}
use Rattle.rules.specs.Accept.{Accepted, accepted, check_form}
use Rattle.rules.proofs.Acceptance.{if_some, if_not_some, bind_some, Made, flag_made, argument_made, positional_made, optional_made, many_made, some_made, count_made, last_made, choice_made}
use Rattle.rules.proofs.Acceptance.{fallback_made, guard_made, inside_same, tree_made}
use Rattle.rules.proofs.KindLaws.{base_kind_lem}
use Rattle.eval_told.specs.Nodes.{tree_at, is_scalar}
use Rattle.eval_shortcut.proofs.Trees.{Single, Double, choice_tree}
use Rattle.eval_told.proofs.NodeLaw.{node_tree, at_tree, tree_accepted}

-- ---- kinds
-- a repeat's child is no list
pub list_scalar : (k : Option Kind) → is_some (k >>? list_kind) ≡ true → is_scalar k ≡ true
unfolding is_some ◌>>?◌ list_kind is_scalar shape_of
list_scalar none e = absurd (false≢true e)
list_scalar (some (one b)) e = refl
list_scalar (some (optional b)) e = refl
list_scalar (some (list b)) e = absurd (false≢true e)
list_scalar (some (list_of_optional b)) e = absurd (false≢true e)
list_scalar (some (optional_list b)) e = absurd (false≢true e)

-- an optional list is over a list
pub optional_long : (k : Option Kind) → is_some (k >>? optional_kind) ≡ true → is_scalar (k >>? optional_kind) ≡ false → is_scalar k ≡ false
unfolding is_some ◌>>?◌ optional_kind is_scalar shape_of
optional_long none e l = refl
optional_long (some (one b)) e l = absurd (false≢true (sym l))
optional_long (some (optional b)) e l = absurd (false≢true e)
optional_long (some (list b)) e l = refl
optional_long (some (list_of_optional b)) e l = refl
optional_long (some (optional_list b)) e l = refl

count_scalar : (k : Option Kind) → is_some (k >>? count_kind) ≡ true → is_scalar (k >>? count_kind) ≡ true
unfolding is_some ◌>>?◌ count_kind list_kind is_scalar shape_of
count_scalar none e = absurd (false≢true e)
count_scalar (some (one b)) e = refl
count_scalar (some (optional b)) e = refl
count_scalar (some (list b)) e = absurd (false≢true e)
count_scalar (some (list_of_optional b)) e = absurd (false≢true e)
count_scalar (some (optional_list b)) e = absurd (false≢true e)

last_scalar : (k : Option Kind) → is_some (k >>? last_kind) ≡ true → is_scalar (k >>? last_kind) ≡ true
unfolding is_some ◌>>?◌ last_kind list_kind is_scalar shape_of
last_scalar none e = absurd (false≢true e)
last_scalar (some (one b)) e = refl
last_scalar (some (optional b)) e = refl
last_scalar (some (list b)) e = absurd (false≢true e)
last_scalar (some (list_of_optional b)) e = absurd (false≢true e)
last_scalar (some (optional_list b)) e = absurd (false≢true e)

base_scalar : (b : Base) (k : Option Kind) → is_some (k >>? base_kind b) ≡ true → is_scalar (k >>? base_kind b) ≡ true
unfolding is_scalar shape_of
base_scalar b k e = let q = base_kind_lem b k e in rw (q.0, q.1)

-- ---- lookups
lookup_take : {A : Type 0} (k : ℕ) (l : List A) (i : ℕ) (a : A) → get_elem? (take k l) i ≡ some a → (i < k) × (get_elem? l i ≡ some a)
lookup_take zero l i a e = absurd (none-ne-some a e)
lookup_take (suc k) [] i a e = absurd (none-ne-some a e)
lookup_take (suc k) (x ∷ l) zero a e = (omega arith, e)
lookup_take (suc k) (x ∷ l) (suc i) a e = let q = lookup_take k l i a e in (omega (arith, q.0), q.1)

-- of the nodes that are no optional and no many or some, only a choice has a list for a value
kind_nine :
    (f : Form) (ts : List Tree) (k : ℕ) (x : Node) (t : Tree)
    → Made f ts k x t
    → (x.kind ≡ 4 → ⊥)
    → (x.kind ≡ 5 → ⊥)
    → (x.kind ≡ 6 → ⊥)
    → is_scalar (kind_of t) ≡ false
    → x.kind ≡ 9
unfolding kind_of is_scalar shape_of
kind_nine f ts k x t (flag_made l q u v w) a b c e = absurd (false≢true (sym e))
kind_nine f ts k x t (argument_made l q u v w) a b c e = absurd (false≢true (sym e))
kind_nine f ts k x t (positional_made q u v w) a b c e = absurd (false≢true (sym e))
kind_nine f ts k x t (optional_made d g q u v w i) a b c e = absurd (a q)
kind_nine f ts k x t (many_made d g q u v w i j) a b c e = absurd (b q)
kind_nine f ts k x t (some_made d g q u v w i j) a b c e = absurd (c q)
kind_nine f ts k x t (count_made g q u v w i) a b c e = absurd (false≢true (sym e ∙ count_scalar (kind_of g) i))
kind_nine f ts k x t (last_made g q u v w i) a b c e = absurd (false≢true (sym e ∙ last_scalar (kind_of g) i))
kind_nine f ts k x t (choice_made g d q u v w i) a b c e = q
kind_nine f ts k x t (fallback_made g κ d q u v w i j) a b c e = absurd (false≢true (sym e ∙ base_scalar (base_of d) (kind_of g) j))
kind_nine f ts k x t (guard_made g q u v w i) a b c e = absurd (false≢true (sym e ∙ base_scalar number (kind_of g) i))

repeat_some : (make : Tree → Tree) (c t : Tree) → repeat_of make c ≡ some t → make c ≡ t
unfolding repeat_of fitting
repeat_some make c t e =
    some-injective (make c) t
    (if_some (is_some (kind_of (make c))) (some (make c)) (if_not_some (has_repeat c) (fitting (make c)) e).1).1

module _ (f : Form) (below : List Tree) (x : Node) (t : Tree) where
  many_by : x.kind ≡ 5 → tree_of f below x ≡ some t → caught_of below x (λ c. repeat_of (Many c)) ≡ some t
  unfolding tree_of caught_of child_of
  many_by k e = rw (k, tree_of) at e

  some_by_lem : x.kind ≡ 6 → tree_of f below x ≡ some t → caught_of below x (λ c. repeat_of (Some c)) ≡ some t
  unfolding tree_of caught_of child_of
  some_by_lem k e = rw (k, tree_of) at e

-- ---- a node that has a tree
module _
    (b : List ℕ)
    (n : ℕ)
    (t : Tree)
    (g : tree_at b n ≡ some t)
    (x : Node)
    (h : get_elem? (read_form b).nodes n ≡ some x)
  where
    accepts : (a : Accepted) × (check_form b ≡ accepted a) × (get_elem? a.trees n ≡ some t)
    accepts = tree_accepted b n t g

    below : List Tree
    below = take n accepts.0.trees

    tree_is : tree_of (read_form b) below x ≡ some t
    unfolding below
    tree_is =
        let (a, e, k) = accepts in
        let w = node_tree b a e n x h in
        w.made ∙ sym w.stands ∙ k

    -- many and some
    row :
        (make : Bool → Tree → Tree)
        → caught_of below x (λ c. repeat_of (make c)) ≡ some t
        → Single (make (eqb x.r 1)) b n x.p t
    unfolding below caught_of child_of
    row make q =
        let (a, e, k) = accepts in
        let fit : Tree → Option Tree = repeat_of (make (eqb x.r 1)) in
        let u = if_some (leb x.r 1) (child_of (x.lo ∷ x.hi ∷ []) below x fit) q in
        let v = if_some (zeros (x.q ∷ x.lo ∷ x.hi ∷ [])) (get_elem? below x.p >>? fit) u.1 in
        let (c, f, m) = bind_some (get_elem? below x.p) fit v.1 in
        let (l, w) = lookup_take n a.trees x.p c f in
        record { child = c; less = l; node = at_tree b a e x.p ∙ w; same = repeat_some (make (eqb x.r 1)) c t m }

    pub many_tree : x.kind ≡ 5 → Single (Many (eqb x.r 1)) b n x.p t
    many_tree k = row Many (many_by (read_form b) below x t k tree_is)

    pub some_tree : x.kind ≡ 6 → Single (Some (eqb x.r 1)) b n x.p t
    some_tree k = row Some (some_by_lem (read_form b) below x t k tree_is)

    pub other_tree : (x.kind ≡ 4 → ⊥) → (x.kind ≡ 5 → ⊥) → (x.kind ≡ 6 → ⊥) → is_scalar (kind_of t) ≡ false → Double b n x.p x.q t
    other_tree f q k l =
        choice_tree b n t g x h
        (kind_nine (read_form b) below (length below) x t (tree_made (read_form b) below below (inside_same below) x t tree_is) f q k l)
