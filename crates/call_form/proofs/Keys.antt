-- The names of a node of an accepted form, and the name of a record.
use mathlib.Core.Bool.{Bool, true, false}
use mathlib.Core.List.{List, [], ◌∷◌}
use mathlib.Core.Option.{Option, some, none}
use mathlib.Core.Path.{◌≡◌, refl, sym, ap, ◌∙◌}
use Prim.Native.Nat.{ℕ, zero, suc, ◌+◌, ◌%◌, ◌≤◌, ◌<◌}
use native.Mathlib.Omega.{arith}
use lib.Dec.{eqb, leb, ltb}
use lib.ListN.{length, take, get_elem?, drop}
use borrow.Author.Tests.{eq-eqb, ne_eqb, le-ltb}
use Rattle.std.specs.Prelude.{if◌then◌else◌}
use Rattle.rules.specs.Base.{is_some, ◌>>?◌}
use Rattle.rules.specs.Form.{Node, Name, Form, node_count, field_count, name_count, read_form, name_bytes}
use Rattle.rules.specs.Tree.{Named, Tree, named_by}
use Rattle.rules.specs.Accept.{accepted, Accepted, check_form, length_good}
use Rattle.rules.specs.Calls.{flag_names, argument_key, key_of, command_name, Key as RulesKey}
use Rattle.rules.proofs.Acceptance.{if_some, bind_is, bind_some, is_some_lem, lookup_inside, Made, flag_made, argument_made, positional_made, optional_made, many_made, some_made}
use Rattle.rules.proofs.Acceptance.{count_made, last_made}
use Rattle.rules.proofs.Acceptance.{choice_made, fallback_made, guard_made, tree_made, inside_same, names_some, accepted_form, accepted_length, accepted_trees, accepted_fields}
use Rattle.rules.proofs.WellMadeLaws.{well_made}
use Rattle.form_names.specs.Names.{name_of}
use Rattle.form_names.specs.declared.Name as names
use Rattle.form_layout.specs.declared.Node as layout
use Rattle.form_layout.specs.declared.Kind.TheVariants.{Flag, Argument}
use Rattle.form_layout.specs.Kinds.{kind_number}
use Rattle.form_layout.proofs.KindNumbers.{not_kind}
use Rattle.form_layout.specs.Layout.{node_of, HasName, name_bytes_at}
use Rattle.form_layout.proofs.Sizes.{fields_length, nodes_length, names_length}
use Rattle.form_codes.specs.Codes.{names_from, named_at}
use Rattle.eval_told.proofs.NodeLaw.{node_tree}
use Rattle.call_form.specs.Keys.{key_with, no_key, KeyAt, Keyed, command_at}
use Rattle.call_form.specs.declared.Key.{Key}
use Rattle.form_layout.proofs.Sizes.{accepted_names}

pub past : {A : Type 0} (l : List A) (k : ℕ) → length l ≤ k → get_elem? l k ≡ none
past [] k h = refl
past (x ∷ l) zero h = absurd (omega arith)
past (x ∷ l) (suc k) h = past l k (omega arith)

-- ---- the counts of an accepted form
pub form_long : (b : List ℕ) → ((a : Accepted) × (check_form b ≡ accepted a)) → length_good b ≡ true
form_long b e = accepted_length b e.0 e.1

pub form_eight : (b : List ℕ) → ((a : Accepted) × (check_form b ≡ accepted a)) → 8 ≤ length b
form_eight b e = omega (arith, (well_made b e.0 e.1).counts.exact)

pub form_fields : (b : List ℕ) (a : Accepted) → check_form b ≡ accepted a → field_count b ≡ length a.fields
form_fields b a g = sym (accepted_fields b a g ∙ ap (λ (f : Form). length f.fields) (accepted_form b a g) ∙ fields_length b)

pub name_below : (b : List ℕ) (k n : ℕ) → n ≡ name_count b → k < n → k < name_count b
name_below b k n m h = omega (arith, m, h)

-- ---- a tree's names, by the kind of its node
abbrev part_names : Form → Node → Named
part_names f x = named_by f.area (take x.q (drop x.p f.names))

record ByKind (f : Form) (x : Node) (t : Tree) : Type 0 where
  pub flag : flag_names t ≡ (if eqb x.kind 1 then some (part_names f x) else none)
  pub argument : argument_key t ≡ (if eqb x.kind 2 then some (record { named = part_names f x; adjacent = eqb (x.r % 2) 1 }) else none)
  pub inside : x.kind ≤ 2 → x.p + x.q ≤ length f.names

module _ (f : Form) (ts : List Tree) (j : ℕ) (x : Node) where
  other : (t : Tree) → flag_names t ≡ none → argument_key t ≡ none → 3 ≤ x.kind → ByKind f x t
  other t a b h = record {
    flag = rw (ne_eqb x.kind 1 (λ e. omega arith)) a;
    argument = rw (ne_eqb x.kind 2 (λ e. omega arith)) b;
    inside = λ l. absurd (omega arith);
  }

  by_kind : (t : Tree) → Made f ts j x t → ByKind f x t
  unfolding flag_names argument_key
  by_kind t (flag_made l e r u n) =
      let s = names_some f x l n in
      record { flag = rw (e, s.part) refl; argument = rw e refl; inside = λ _. s.inside }
  by_kind t (argument_made l e r u n) =
      let s = names_some f x l n in
      record { flag = rw e refl; argument = rw (e, s.part) refl; inside = λ _. s.inside }
  by_kind t (positional_made e p r u) = other t refl refl (omega (arith, e))
  by_kind t (optional_made b c e r u h k) = other t refl refl (omega (arith, e))
  by_kind t (many_made b c e r u h n k) = other t refl refl (omega (arith, e))
  by_kind t (some_made b c e r u h n k) = other t refl refl (omega (arith, e))
  by_kind t (count_made c e u h n k) = other t refl refl (omega (arith, e))
  by_kind t (last_made c e u h n k) = other t refl refl (omega (arith, e))
  by_kind t (choice_made c d e u h g k) = other t refl refl (omega (arith, e))
  by_kind t (fallback_made c κ v e u h g w k) = other t refl refl (omega (arith, e))
  by_kind t (guard_made c e u h l k) = other t refl refl (omega (arith, e))

flag_key : (t : Tree) (m : Named) → flag_names t ≡ some m → key_of t ≡ some (record { named = m; adjacent = false })
unfolding key_of
flag_key t m e = rw (e, key_of)

no_flag_key : (t : Tree) (o : Option RulesKey) → flag_names t ≡ none → argument_key t ≡ o → key_of t ≡ o
unfolding key_of
no_flag_key t o e h = rw (e, key_of) h

-- ---- `key_at`
module _ (b : List ℕ) (k : ℕ) where
  past_nodes : node_count b ≤ k → (a : Accepted) → check_form b ≡ accepted a → KeyAt b a k no_key
  unfolding ◌>>?◌
  past_nodes h a g =
      let long = accepted_trees b a g ∙ ap (λ (f : Form). length f.nodes) (accepted_form b a g) ∙ nodes_length b in
      let gone = past a.trees k (omega (arith, long, h)) in
      record { inside = omega arith; flag = rw gone; argument = rw gone; any = rw gone }

  module _ (x : Node) (at : get_elem? (read_form b).nodes k ≡ some x) (a : Accepted) (g : check_form b ≡ accepted a) where
    abbrev tree : Tree
    tree = (node_tree b a g k x at).tree

    here : {A : Type 0} (f : Tree → Option A) → (get_elem? a.trees k >>? f) ≡ f tree
    here f = bind_is (get_elem? a.trees k) f (node_tree b a g k x at).stands

    kinds : ByKind (read_form b) x tree
    kinds = by_kind (read_form b) (take k a.trees) _ x tree
        (tree_made (read_form b) (take k a.trees) (take k a.trees) (inside_same (take k a.trees)) x tree (node_tree b a g k x at).made)

    few : x.kind ≤ 2 → x.p + x.q ≤ name_count b
    few h = omega (arith, kinds.inside h, names_length b)

    flag_here : x.kind ≡ 1 → KeyAt b a k (key_with 1 x.p x.q false)
    unfolding named_at names_from
    flag_here e =
        let is : flag_names tree ≡ some (named_at b x.p x.q) = kinds.flag ∙ rw (eq-eqb x.kind 1 e) in
        record {
          inside = few (omega arith);
          flag = here flag_names ∙ is;
          argument = here argument_key ∙ kinds.argument ∙ rw (ne_eqb x.kind 2 (λ h. omega arith));
          any = here key_of ∙ flag_key tree _ is;
        }

    argument_here : x.kind ≡ 2 → KeyAt b a k (key_with 2 x.p x.q (eqb (x.r % 2) 1))
    unfolding named_at names_from
    argument_here e =
        let is : argument_key tree ≡ some (record { named = named_at b x.p x.q; adjacent = eqb (x.r % 2) 1 }) = kinds.argument ∙ rw (eq-eqb x.kind 2 e) in
        let no : flag_names tree ≡ none = kinds.flag ∙ rw (ne_eqb x.kind 1 (λ h. omega arith)) in
        record {
          inside = few (omega arith);
          flag = here flag_names ∙ no;
          argument = here argument_key ∙ is;
          any = here key_of ∙ no_flag_key tree _ no is;
        }

    other_here : (x.kind ≡ 1 → ⊥) → (x.kind ≡ 2 → ⊥) → KeyAt b a k no_key
    other_here p q =
        let no : flag_names tree ≡ none = kinds.flag ∙ rw (ne_eqb x.kind 1 p) in
        let not : argument_key tree ≡ none = kinds.argument ∙ rw (ne_eqb x.kind 2 q) in
        record {
          inside = omega arith;
          flag = here flag_names ∙ no;
          argument = here argument_key ∙ not;
          any = here key_of ∙ no_flag_key tree none no not;
        }

  -- as the code has it
  pub key_past : (n : ℕ) → n ≡ node_count b → n ≤ k → (r : Key) → r ≡ no_key → Keyed b k r
  key_past n m h r e = record { at = λ a g. rw e (past_nodes (omega (arith, m, h)) a g) }

  module _ (x : layout.Node) (at : get_elem? (read_form b).nodes k ≡ some (node_of x)) where
    pub key_flag : x.kind ≡ Flag → Keyed b k (key_with 1 x.p x.q false)
    key_flag e = record { at = λ a g. flag_here (node_of x) at a g (ap kind_number e) }

    pub key_argument : x.kind ≡ Argument → Keyed b k (key_with 2 x.p x.q (eqb (x.r % 2) 1))
    key_argument e = record { at = λ a g. argument_here (node_of x) at a g (ap kind_number e) }

    pub key_other : (x.kind ≡ Flag → ⊥) → (x.kind ≡ Argument → ⊥) → (r : Key) → r ≡ no_key → Keyed b k r
    key_other p q r e = record { at = λ a g. rw e (other_here (node_of x) at a g (not_kind x.kind 1 refl p) (not_kind x.kind 2 refl q)) }

-- ---- the name of a command
module _ (b : List ℕ) (k : ℕ) where
  pub name_past : (n : ℕ) → n ≡ name_count b → n ≤ k → ltb k n ≡ is_some (command_at b k)
  unfolding command_at is_some ◌>>?◌
  name_past n m h = rw (le-ltb k n h, past (read_form b).names k (omega (arith, names_length b, m, h)))

  pub name_here : (x : names.Name) → get_elem? (read_form b).names k ≡ some (name_of x) → leb x.kind 1 ≡ is_some (command_at b k)
  unfolding command_at is_some ◌>>?◌
  name_here x e = rw (e, command_at) (go (leb x.kind 1))
    where
      go : (t : Bool) → t ≡ is_some (if t then some (name_bytes (read_form b).area (name_of x)) else none)
      go true = refl
      go false = refl

  pub command_name_lem : (a : Accepted) → check_form b ≡ accepted a → command_name a k ≡ command_at b k
  unfolding command_name command_at
  command_name_lem a g = rw (accepted_form b a g)

  -- a name that is there
  module _ (t : is_some (command_at b k) ≡ true) where
    word_some : (x : Name) × (get_elem? (read_form b).names k ≡ some x) × ((if leb x.type 1 then some (name_bytes (read_form b).area x) else none) ≡ some (is_some_lem (command_at b k) t).0)
    unfolding command_at
    word_some = bind_some (get_elem? (read_form b).names k) _ (is_some_lem (command_at b k) t).1

    pub has_name : (a : Accepted) → check_form b ≡ accepted a → HasName b k
    has_name a g =
        let c = accepted_names b a g in
        record {
          good = c.good;
          names = c.names;
          below = omega (arith, lookup_inside (read_form b).names k word_some.0 word_some.1, names_length b);
        }

    pub command_word : (w : List ℕ) → name_bytes_at (read_form b) k ≡ some w → command_at b k ≡ some w
    unfolding name_bytes_at command_at ◌>>?◌
    command_word w e =
        let (x, at, made) = word_some in
        let p = if_some (leb x.type 1) (some (name_bytes (read_form b).area x)) made in
        let bytes : some (name_bytes (read_form b).area x) ≡ some w = rw (at, name_bytes_at) at e in
        rw (at, p.0) bytes
