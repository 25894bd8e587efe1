-- The names of a node of an accepted form, and a test of all nodes one after the other.
use mathlib.Core.Bool.{Bool, true, false, not, ◌&&◌}
use mathlib.Core.List.{List, [], ◌∷◌}
use mathlib.Core.Logic.{◌⊎◌, inl, inr}
use mathlib.Core.Option.{some}
use mathlib.Core.Path.{◌≡◌, refl, sym, ap, ◌∙◌}
use Prim.Native.Nat.{ℕ, zero, suc, ◌+◌, ◌≤◌, ◌<◌}
use native.Mathlib.Omega.{arith}
use lib.Dec.{eqb}
use lib.ListN.{length, get_elem?}
use borrow.Author.Tests.{eq-eqb, ne_eqb, eqb-true, eqb-false}
use Rattle.rules.specs.Base.{all, contains, ◌>>?◌}
use Rattle.rules.specs.Form.{Node, Name, node_count, name_count, read_form}
use Rattle.rules.specs.Tree.{Tree, names_of, named_of}
use Rattle.rules.specs.Accept.{length_good}
use Rattle.rules.specs.Split.{Item}
use Rattle.rules.specs.Take.{matches_arg}
use Rattle.rules.specs.Calls.{item_from}
use Rattle.rules.specs.Why.{names_item, no_positionals}
use Rattle.rules.proofs.Acceptance.{Made, flag_made, argument_made, positional_made, optional_made, many_made, some_made, count_made, last_made, choice_made, fallback_made, guard_made}
use Rattle.rules.proofs.Acceptance.{TreesAt, trees_made, names_some, accepted_length, accepted_passed, lookup_inside, lookup_some}
use Rattle.form_layout.specs.declared.Node as layout
use Rattle.form_layout.specs.declared.Kind.TheVariants.{Flag, Argument, Positional}
use Rattle.form_layout.specs.Kinds.{kind_number}
use Rattle.form_layout.proofs.KindNumbers.{either, not_kind}
use Rattle.form_layout.specs.Layout.{node_of}
use Rattle.form_layout.proofs.Sizes.{sized, nodes_length, names_length, accepted_names}
use Rattle.form_codes.specs.Codes.{names_from, named_at}
use Rattle.split_arg.specs.Items.{record_at}
use Rattle.take_search.specs.Search.{HasNames}
use Rattle.why_names.specs.Naming.{CanName, NodeNames, FormNames}

-- ---- a node that has names
-- those of a flag or of an argument are there
pub record NodeNamed (b : List ℕ) (x : Node) : Type 0 where
  pub inside : x.p + x.q ≤ name_count b
  pub named : named_of (read_form b) x ≡ some (named_at b x.p x.q)

module _ (b : List ℕ) (x : Node) where
  abbrev Named12 : Type 0
  Named12 = (x.kind ≡ 1) ⊎ (x.kind ≡ 2) → NodeNamed b x

  has_names : (l : List Name) → names_of (read_form b) x ≡ some l → NodeNamed b x
  unfolding named_of named_at names_from ◌>>?◌
  has_names l e =
      let s = names_some (read_form b) x l e in
      record { inside = omega (arith, s.inside, names_length b); named = rw (e, s.part) }

  other : 3 ≤ x.kind → Named12
  other h (inl e) = absurd (omega arith)
  other h (inr e) = absurd (omega arith)

  made_named : (ts : List Tree) (k : ℕ) (t : Tree) → Made (read_form b) ts k x t → Named12
  made_named ts k t (flag_made l e r u n) w = has_names l n
  made_named ts k t (argument_made l e r u n) w = has_names l n
  made_named ts k t (positional_made e p r u) w = other (omega (arith, e)) w
  made_named ts k t (optional_made c d e r u h g) w = other (omega (arith, e)) w
  made_named ts k t (many_made c d e r u h n g) w = other (omega (arith, e)) w
  made_named ts k t (some_made c d e r u h n g) w = other (omega (arith, e)) w
  made_named ts k t (count_made c e u h n g) w = other (omega (arith, e)) w
  made_named ts k t (last_made c e u h n g) w = other (omega (arith, e)) w
  made_named ts k t (choice_made c d e u h m g) w = other (omega (arith, e)) w
  made_named ts k t (fallback_made c κ v e u h m n g) w = other (omega (arith, e)) w
  made_named ts k t (guard_made c e u h l g) w = other (omega (arith, e)) w

trees_named :
    (b : List ℕ) (ts : List Tree) (j : ℕ) (xs : List Node)
    → TreesAt (read_form b) ts j xs
    → (k : ℕ) (x : Node)
    → get_elem? xs k ≡ some x
    → Named12 b x
trees_named b ts j [] t k x e w = absurd (let z : ◌≡◌ {A = ℕ} 0 1 = cc in omega arith)
trees_named b ts j (y ∷ xs) t zero x e w = let same : y ≡ x = cc in made_named b x ts j t.0.tree (rw same at t.0.made) w
trees_named b ts j (y ∷ xs) t (suc k) x e w = trees_named b ts (suc j) xs t.1 k x e w

module _ (b codes s words : List ℕ) (i n : ℕ) (g : CanName b codes s words i) where
  pub form_long : length_good b ≡ true
  form_long = accepted_length b g.result g.accepts

  module _ (x : layout.Node) (at : get_elem? (read_form b).nodes n ≡ some (node_of x)) where
    named_here : Named12 b (node_of x)
    named_here =
        let trees = trees_made (read_form b) [] (read_form b).nodes g.result.trees (accepted_passed b g.result g.accepts).trees in
        trees_named b g.result.trees 0 (read_form b).nodes trees n (node_of x) at

    pub names_there : (x.kind ≡ Flag) ⊎ (x.kind ≡ Argument) → HasNames b codes x.p x.q
    names_there w = record { checked = accepted_names b g.result g.accepts; coded = g.coded; inside = (named_here (either x.kind Flag Argument w)).inside }

    -- what is told of this node holds of the one that stands there
    told : (area : List ℕ) (r : Bool) → ((y : Item) → item_from area (record_at words i) ≡ some y → r ≡ names_item (read_form b) y (node_of x)) → NodeNames b area words i n r
    told area r h = record { same = λ y z e d. let same : node_of x ≡ z = cc in rw same at (h y e) }

    pub nameless : (area : List ℕ) → (x.kind ≡ Flag → ⊥) → (x.kind ≡ Argument → ⊥) → NodeNames b area words i n false
    unfolding names_item contains
    nameless area f a =
        let flag : (1 ≡ kind_number x.kind) → ⊥ = λ e. not_kind x.kind 1 refl f (sym e) in
        let argument : (2 ≡ kind_number x.kind) → ⊥ = λ e. not_kind x.kind 2 refl a (sym e) in
        told area false (λ y e. rw (ne_eqb 1 (kind_number x.kind) flag, ne_eqb 2 (kind_number x.kind) argument))

    pub node_names : (area : List ℕ) → (x.kind ≡ Flag) ⊎ (x.kind ≡ Argument) → (r : Bool)
        → ((y : Item) → item_from area (record_at words i) ≡ some y → r ≡ matches_arg (named_at b x.p x.q) false y)
        → NodeNames b area words i n r
    unfolding names_item contains
    node_names area w r h = told area r (λ y e. h y e ∙ kind w y)
      where
        named : named_of (read_form b) (node_of x) ≡ some (named_at b x.p x.q)
        named = (named_here (either x.kind Flag Argument w)).named

        kind : (x.kind ≡ Flag) ⊎ (x.kind ≡ Argument) → (y : Item) → matches_arg (named_at b x.p x.q) false y ≡ names_item (read_form b) y (node_of x)
        kind (inl k) y = rw (eq-eqb 1 (kind_number x.kind) (sym (ap kind_number k)), named)
        kind (inr k) y =
            let e : kind_number x.kind ≡ 2 = ap kind_number k in
            rw (ne_eqb 1 (kind_number x.kind) (λ z. omega arith), eq-eqb 2 (kind_number x.kind) (sym e), named)

-- ---- the counts
pub good_eight : (b : List ℕ) → length_good b ≡ true → 8 ≤ length b
good_eight b e = (sized b e).counts.long

pub named_eight : (b codes s words : List ℕ) (i : ℕ) → CanName b codes s words i → 8 ≤ length b
named_eight b codes s words i g = good_eight b (accepted_length b g.result g.accepts)

-- ---- a test of all nodes
-- those below n pass it
pub record AllBelow {A : Type 0} (p : A → Bool) (l : List A) (n : ℕ) : Type 0 where
  pub passed : (k : ℕ) (x : A) → k < n → get_elem? l k ≡ some x → p x ≡ true

module _ {A : Type 0} (p : A → Bool) (l : List A) where
  pub none_below : AllBelow p l 0
  none_below = record { passed = λ k x h e. absurd (omega arith) }

  pub one_more_lem : (n : ℕ) (x : A) → AllBelow p l n → get_elem? l n ≡ some x → p x ≡ true → AllBelow p l (n + 1)
  one_more_lem n x g e t = record { passed = λ k y h d. go k y h d (eqb k n) refl }
    where
      go : (k : ℕ) (y : A) → k < n + 1 → get_elem? l k ≡ some y → (b : Bool) → eqb k n ≡ b → p y ≡ true
      go k y h d true z = let w : k ≡ n = eqb-true k n z in let same : x ≡ y = cc in rw same at t
      go k y h d false z = g.passed k y (let w = eqb-false k n z in omega arith) d

all_passed : {A : Type 0} (p : A → Bool) (l : List A) → ((k : ℕ) (x : A) → get_elem? l k ≡ some x → p x ≡ true) → all p l ≡ true
unfolding all
all_passed p [] h = refl
all_passed p (x ∷ l) h = rw (h 0 x refl, all_passed p l (λ k y e. h (suc k) y e))

pub all_below : {A : Type 0} (p : A → Bool) (l : List A) (n : ℕ) → AllBelow p l n → length l ≤ n → all p l ≡ true
all_below p l n g h = all_passed p l (λ k x e. g.passed k x (omega (arith, lookup_inside l k x e)) e)

pub one_fails : {A : Type 0} (p : A → Bool) (l : List A) (n : ℕ) (x : A) → get_elem? l n ≡ some x → p x ≡ false → all p l ≡ false
unfolding all
one_fails p [] n x e f = absurd (let z : ◌≡◌ {A = ℕ} 0 1 = cc in omega arith)
one_fails p (y ∷ l) zero x e f = let same : y ≡ x = cc in rw (same, f)
one_fails p (y ∷ l) (suc n) x e f = rw (one_fails p l n x e f) (and-false (p y))
  where
    and-false : (b : Bool) → (b && false) ≡ false
    and-false true = refl
    and-false false = refl

-- ---- no positional
abbrev pub NoPositional : List ℕ → ℕ → Type 0
NoPositional b n = AllBelow (λ (x : Node). not (eqb x.kind 3)) (read_form b).nodes n

pub positional_first : (b : List ℕ) → NoPositional b 0
positional_first b = none_below _ _

pub positional_next : (b : List ℕ) (n : ℕ) (x : layout.Node) → NoPositional b n → get_elem? (read_form b).nodes n ≡ some (node_of x) → (x.kind ≡ Positional → ⊥) → NoPositional b (n + 1)
positional_next b n x g e k = one_more_lem _ _ n (node_of x) g e (rw (ne_eqb (kind_number x.kind) 3 (not_kind x.kind 3 refl k)))

pub positional_hit : (b : List ℕ) (n : ℕ) (x : layout.Node) → get_elem? (read_form b).nodes n ≡ some (node_of x) → x.kind ≡ Positional → true ≡ not (no_positionals (read_form b))
unfolding no_positionals
positional_hit b n x e k = rw (one_fails (λ (x : Node). not (eqb x.kind 3)) (read_form b).nodes n (node_of x) e (rw k))

pub positional_last : (b : List ℕ) (n end : ℕ) → NoPositional b n → end ≡ node_count b → end ≤ n → false ≡ not (no_positionals (read_form b))
unfolding no_positionals
positional_last b n end g e h = rw (all_below (λ (x : Node). not (eqb x.kind 3)) (read_form b).nodes n g (omega (arith, nodes_length b)))

-- ---- no node that has the item's name
pub record Unnamed (b area words : List ℕ) (i n : ℕ) : Type 0 where
  pub by : (y : Item) → item_from area (record_at words i) ≡ some y → AllBelow (λ x. not (names_item (read_form b) y x)) (read_form b).nodes n

module _ (b area words : List ℕ) (i : ℕ) where
  pub unnamed_first : Unnamed b area words i 0
  unnamed_first = record { by = λ y e. none_below _ _ }

  module _ (n : ℕ) (below : n < node_count b) (r : Bool) (told : NodeNames b area words i n r) where
    node_there : (x : Node) × (get_elem? (read_form b).nodes n ≡ some x)
    node_there = lookup_some (read_form b).nodes n (omega (arith, nodes_length b))

    pub unnamed_next : Unnamed b area words i n → r ≡ false → Unnamed b area words i (n + 1)
    unnamed_next g f = record {
      by = λ y e.
          let x = node_there in
          one_more_lem _ _ n x.0 (g.by y e) x.1 (rw (sym (told.same y x.0 e x.1) ∙ f));
    }

    pub unnamed_hit : r ≡ true → FormNames b area words i true
    unnamed_hit t = record {
      same = λ y e.
          let x = node_there in
          rw (one_fails (λ (x : Node). not (names_item (read_form b) y x)) (read_form b).nodes n x.0 x.1 (rw (sym (told.same y x.0 e x.1) ∙ t)));
    }

  pub unnamed_last : (n end : ℕ) → Unnamed b area words i n → end ≡ node_count b → end ≤ n → FormNames b area words i false
  unnamed_last n end g e h = record {
    same = λ y d. rw (all_below (λ (x : Node). not (names_item (read_form b) y x)) (read_form b).nodes n (g.by y d) (omega (arith, nodes_length b)));
  }
