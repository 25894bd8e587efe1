-- The own value of a fallback, by its node.
use mathlib.Core.Bool.{Bool, true, false, ◌&&◌}
use mathlib.Core.List.{List, [], ◌∷◌}
use mathlib.Core.Option.{some, none, some-injective, none-ne-some}
use mathlib.Core.Path.{◌≡◌, refl, sym, subst, ◌∙◌}
use Prim.Native.Nat.{ℕ, ◌+◌, ◌≤◌, ◌<◌}
use native.Mathlib.Omega.{arith}
use lib.Dec.{leb, eqb}
use lib.ListN.{length, take, get_elem?}
use borrow.Author.Tests.{eqb-true, eqb-false, leb-true}
use Rattle.std.specs.Prelude.{if◌then◌else◌}
use Rattle.rules.specs.Base.{is_some}
use Rattle.rules.specs.Codes.{base_code, kind_code}
use Rattle.rules.specs.Form.{Node, Name, Form, node_count, name_count, read_form}
use Rattle.rules.specs.Value.{yes_no, text, number, Kind, one, optional, list, list_of_optional, optional_list, name, BaseValue, is_yes, is_text, is_number, base_of, word}
use Rattle.rules.specs.Tree.{Tree, Flag, Argument, Positional, Optional, Many, Some, Count, Last, Choice, Fallback, Guard, kind_of, zeros, fallback_value}
use Rattle.rules.specs.Accept.{Accepted, accepted, length_good, check_form}
use Rattle.rules.proofs.Acceptance.{if_some, bind_some, and-true, zeros_unused, lookup_inside, Made, flag_made, argument_made, positional_made, optional_made, many_made, some_made}
use Rattle.rules.proofs.Acceptance.{count_made}
use Rattle.rules.proofs.Acceptance.{last_made, choice_made, fallback_made, guard_made, inside_same, tree_made, trees_length, accepted_length, accepted_passed}
use Rattle.rules.proofs.KindLaws.{base_kind_lem}
use Rattle.form_layout.specs.declared.Node as layout
use Rattle.form_layout.specs.Layout.{node_of}
use Rattle.form_layout.proofs.Sizes.{nodes_length, names_length, sized}
use Rattle.eval_told.specs.Nodes.{tree_at}
use Rattle.eval_told.proofs.NodeLaw.{node_tree, tree_sound, tree_accepted}
use Rattle.eval_combine.specs.Made.{FallbackAt}

-- only a text has a name record
abbrev Own : Form → Node → BaseValue → Type 0
Own f x (is_yes b) = (word (is_yes b) ≡ x.lo) × (x.r ≡ 0)
Own f x (is_text t) = (word (is_text t) ≡ 256 + x.r) × (x.lo ≡ 0) × (x.r < length f.names)
Own f x (is_number n) = (word (is_number n) ≡ x.lo) × (x.r ≡ 0)

yes_word : (n : ℕ) → n ≤ 1 → word (is_yes (eqb n 1)) ≡ n
unfolding word
yes_word n h = go (eqb n 1) refl
  where
    go : (b : Bool) → eqb n 1 ≡ b → (if b then 1 else 0) ≡ n
    go true t = sym (eqb-true n 1 t)
    go false t = let z = eqb-false n 1 t in omega arith

value_own : (f : Form) (x : Node) (k : Kind) (v : BaseValue) → fallback_value f x k ≡ some v → Own f x v
unfolding fallback_value word
value_own f x (one yes_no) v e =
    let p = if_some (leb x.lo 1 && zeros (x.r ∷ x.hi ∷ [])) (some (is_yes (eqb x.lo 1))) e in
    let q = and-true (leb x.lo 1) (zeros (x.r ∷ x.hi ∷ [])) p.0 in
    subst (Own f x) (some-injective _ v p.1)
    (yes_word x.lo (leb-true x.lo 1 q.0), (zeros_unused (x.r ∷ x.hi ∷ []) q.1).0)
value_own f x (one text) v e =
    let good : Name → Bool = λ m. eqb m.type 2 && zeros (x.lo ∷ x.hi ∷ []) in
    let (m, h, g) = bind_some (get_elem? f.names x.r) (λ m. if good m then some (is_text (name x.r)) else none) e in
    let p = if_some (good m) (some (is_text (name x.r))) g in
    let q = and-true (eqb m.type 2) (zeros (x.lo ∷ x.hi ∷ [])) p.0 in
    subst (Own f x) (some-injective _ v p.1)
    (refl, (zeros_unused (x.lo ∷ x.hi ∷ []) q.1).0, lookup_inside f.names x.r m h)
value_own f x (one number) v e =
    let p = if_some (zeros (x.r ∷ x.hi ∷ [])) (some (is_number x.lo)) e in
    subst (Own f x) (some-injective _ v p.1) (refl, (zeros_unused (x.r ∷ x.hi ∷ []) p.0).0)
value_own f x (optional b) v e = absurd (none-ne-some v e)
value_own f x (list b) v e = absurd (none-ne-some v e)
value_own f x (list_of_optional b) v e = absurd (none-ne-some v e)
value_own f x (optional_list b) v e = absurd (none-ne-some v e)

-- of the tree that a node makes
abbrev OwnOf : Form → Node → Tree → Type 0
OwnOf f x (Flag n m s) = Unit {0}
OwnOf f x (Argument n m b a) = Unit {0}
OwnOf f x (Positional n p b) = Unit {0}
OwnOf f x (Optional c t) = Unit {0}
OwnOf f x (Many c t) = Unit {0}
OwnOf f x (Some c t) = Unit {0}
OwnOf f x (Count t) = Unit {0}
OwnOf f x (Last t) = Unit {0}
OwnOf f x (Choice t u) = Unit {0}
OwnOf f x (Fallback v t) = Own f x v
OwnOf f x (Guard l h t) = Unit {0}

made_own : (f : Form) (ts : List Tree) (k : ℕ) (x : Node) (t : Tree) → Made f ts k x t → OwnOf f x t
made_own f ts k x t (flag_made l a b c d) = tt
made_own f ts k x t (argument_made l a b c d) = tt
made_own f ts k x t (positional_made a b c d) = tt
made_own f ts k x t (optional_made b c a d e g h) = tt
made_own f ts k x t (many_made b c a d e g h i) = tt
made_own f ts k x t (some_made b c a d e g h i) = tt
made_own f ts k x t (count_made c a d e g h) = tt
made_own f ts k x t (last_made c a d e g h) = tt
made_own f ts k x t (choice_made c d a e g h i) = tt
made_own f ts k x t (fallback_made c κ v a u h g w e) = value_own f x κ v w
made_own f ts k x t (guard_made c a d e g h) = tt

-- ---- of a node of an accepted form
module _ (b : List ℕ) (n : ℕ) where
  there : (t : Tree) → tree_at b n ≡ some t → (length_good b ≡ true) × (n < node_count b)
  there t h =
      let (a, e, g) = tree_accepted b n t h in
      let p = accepted_passed b a e in
      let l = trees_length (read_form b) [] (read_form b).nodes a.trees p.trees in
      let i = lookup_inside a.trees n t g in
      (accepted_length b a e, omega (arith, nodes_length b))

  pub fallback_there : FallbackAt b n → (length_good b ≡ true) × (n < node_count b)
  fallback_there h = there (Fallback h.value h.child) h.node

  module _ (x : layout.Node) (hx : get_elem? (read_form b).nodes n ≡ some (node_of x)) where
    own_of : (v : BaseValue) (c : Tree) → tree_at b n ≡ some (Fallback v c) → Own (read_form b) (node_of x) v
    own_of v c h =
        let (a, e, g) = tree_accepted b n (Fallback v c) h in
        let k = node_tree b a e n (node_of x) hx in
        let same : k.tree ≡ Fallback v c = some-injective _ _ (sym k.stands ∙ g) in
        let below = take n a.trees in
        let made = tree_made (read_form b) below below (inside_same below) (node_of x) (Fallback v c) (rw same at k.made) in
        made_own (read_form b) below (length below) (node_of x) (Fallback v c) made

    -- a name record has a low number
    pub record_low : FallbackAt b n → (x.r ≡ 0 → ⊥) → x.r < 128
    record_low h z = go h.value (own_of h.value h.child h.node)
      where
        few : name_count b ≤ 128
        few = (sized b (fallback_there h).0).counts.names

        go : (v : BaseValue) → Own (read_form b) (node_of x) v → x.r < 128
        go (is_yes y) o = absurd (z o.1)
        go (is_text t) o = omega (arith, few, o.2, names_length b)
        go (is_number k) o = absurd (z o.1)

    -- the word, as the code tests
    abbrev Word : ℕ → Type 0
    Word w = (v : BaseValue) (c : Tree) → tree_at b n ≡ some (Fallback v c) → w ≡ word v

    pub record_word : (x.r ≡ 0 → ⊥) → Word (256 + x.r)
    record_word z v c h = go v (own_of v c h)
      where
        go : (v : BaseValue) → Own (read_form b) (node_of x) v → 256 + x.r ≡ word v
        go (is_yes y) o = absurd (z o.1)
        go (is_text t) o = sym o.0
        go (is_number k) o = absurd (z o.1)

    pub number_word : x.r ≡ 0 → (x.lo ≡ 0 → ⊥) → Word x.lo
    number_word e z v c h = go v (own_of v c h)
      where
        go : (v : BaseValue) → Own (read_form b) (node_of x) v → x.lo ≡ word v
        go (is_yes y) o = sym o.0
        go (is_text t) o = absurd (z o.1)
        go (is_number k) o = sym o.0

    -- the kind of the node is that of its value
    kind_of_lem : (v : BaseValue) (c : Tree) → is_some (kind_of (Fallback v c)) ≡ true → kind_of (Fallback v c) ≡ some (one (base_of v))
    unfolding kind_of
    kind_of_lem v c e = let p = base_kind_lem (base_of v) (kind_of c) e in p.0 ∙ p.1

    module _ (k : ℕ) (d : (a : Accepted) (t : Tree) (κ : Kind) → check_form b ≡ accepted a → get_elem? a.trees n ≡ some t → kind_of t ≡ some κ → k ≡ kind_code κ)
        (er : x.r ≡ 0) (el : x.lo ≡ 0) where
      code_of : (v : BaseValue) (c : Tree) → tree_at b n ≡ some (Fallback v c) → k ≡ kind_code (one (base_of v))
      code_of v c h =
          let (a, e, g) = tree_accepted b n (Fallback v c) h in
          d a (Fallback v c) (one (base_of v)) e g (kind_of_lem v c (tree_sound b a e n (Fallback v c) g).kind)

      pub text_word : k ≡ 2 → Word 256
      unfolding kind_code base_code base_of
      text_word t v c h = go v (own_of v c h) (sym t ∙ code_of v c h)
        where
          go : (v : BaseValue) → Own (read_form b) (node_of x) v → 2 ≡ kind_code (one (base_of v)) → 256 ≡ word v
          go (is_yes y) o e = absurd (omega arith)
          go (is_text y) o e = omega (arith, o.0)
          go (is_number y) o e = absurd (omega arith)

      pub zero_word : (k ≡ 2 → ⊥) → Word 0
      unfolding kind_code base_code base_of
      zero_word t v c h = go v (own_of v c h) (code_of v c h)
        where
          go : (v : BaseValue) → Own (read_form b) (node_of x) v → k ≡ kind_code (one (base_of v)) → 0 ≡ word v
          go (is_yes y) o e = sym (o.0 ∙ el)
          go (is_text y) o e = absurd (t e)
          go (is_number y) o e = sym (o.0 ∙ el)
