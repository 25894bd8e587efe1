-- A form is accepted exactly when it is well made, and refused by the number and place of its lowest fault.
use Rattle.std.specs.Prelude.{if◌then◌else◌}
use mathlib.Core.Bool.{Bool, true, false, not, ◌&&◌, ◌||◌, false≢true, true≢false}
use mathlib.Core.List.{List, [], ◌∷◌, ◌++◌}
use mathlib.Core.Logic.{◌⊎◌, inl, inr, ⊎_elim}
use mathlib.Core.Option.{Option, some, none, some-injective, none-ne-some}
use mathlib.Core.Path.{◌≡◌, refl, sym, ◌∙◌, ap, subst}
use Prim.Native.Nat.{ℕ, zero, suc, ◌+◌, ◌-◌, ◌%◌, ◌≤◌, ◌<◌}
use native.Mathlib.Nat.{zero-add, add-zero, eq-or-lt_of_le}
use native.Mathlib.Omega.{arith}
use lib.Dec.{leb, eqb}
use lib.ListN.{length, take, drop, get_elem?, length-append, length-map, length-take, length-drop}
use lib.Seq.{length-take-le}
use borrow.Author.Tests.{eq-eqb, le-leb, lt-leb, eqb-true, eqb-false, leb-true, leb-false}
use Rattle.utf8.specs.Utf8.{well_formed}
use Rattle.rules.specs.Base.{null, all, contains, occurrences, numbers, is_some, ◌>>?◌, slice, first_fault}
use Rattle.rules.specs.Value.{Base, yes_no, text, number, same_base, base_number, Kind, one, optional, list, list_of_optional, optional_list, name, BaseValue, is_yes, is_text, is_number}
use Rattle.rules.specs.Value.{base_of}
use Rattle.rules.specs.Form.{Node, Name, Form, node_count, field_count, name_count, area_length, counts_good, nodes_at, names_at, area_at, form_length, read_form, name_bytes, one_character}
use Rattle.rules.specs.Form.{type_good, name_good}
use Rattle.rules.specs.Tree.{Named, Tree, Flag, Argument, Positional, Optional, Many, Some, Count, Last, Choice, Fallback, Guard, optional_kind, list_kind, count_kind, last_kind, shape_of}
use Rattle.rules.specs.Tree.{inner_base, same_kind, choice_kind, base_kind, kind_of, has_repeat, zeros, names_of, named_by, named_of, flag_of, argument_of, position_of, positional_of}
use Rattle.rules.specs.Tree.{fitting}
use Rattle.rules.specs.Tree.{repeat_of, fallback_value, fallback_of, guard_of, child_of, caught_of, choice_of, tree_of}
use Rattle.rules.specs.Accept.{Checked, accepted, refused_at, Accepted, length_good, trees_from, uses, used_once, trees_at, check_use, check_records, check_form}
use Rattle.rules.specs.Demands.{All}
use Rattle.rules.specs.WellMade.{NameMade, NamesMade, Unused, FallbackMade, NodeMade, flag_row, argument_row, positional_row, optional_row, list_row, count_row, last_row, choice_row}
use Rattle.rules.specs.WellMade.{fallback_row, guard_row, NodesMade, CountsMade, WellMade}
use Rattle.rules.specs.Answered.{FormFault, bad_counts, bad_name, bad_node, bad_field, bad_use}
use Rattle.rules.proofs.Acceptance.{refused_not, accepted_same, lookup_inside, if_some, branch, zeros_unused, if_true, if_false, bind_is, both, unused_zeros, lookup_some}
use Rattle.rules.proofs.Acceptance.{lookup_snoc, All-map, good_no_fault, numbers_length, numbers_all, numbers_each, bind_some, and-true, Made, flag_made, argument_made, positional_made}
use Rattle.rules.proofs.Acceptance.{optional_made, many_made, some_made, count_made, last_made, choice_made, fallback_made, guard_made, TreeAt, TreesAt, trees_made, trees_length, no_fault}
use Rattle.rules.proofs.Acceptance.{is_some_lem, names_some, NameGood, short_one, accepted_length, accepted_passed}
use Rattle.rules.proofs.Uses.{fields_inside, used_once_lem}

-- ---- counts and length
pub counts_limits :
    (b : List ℕ)
    → counts_good b ≡ true
    → ((1 ≤ node_count b) × (node_count b ≤ 64)) × ((1 ≤ field_count b) × (field_count b ≤ 16)) × (name_count b ≤ 128) × (area_length b ≤ 4096)
unfolding counts_good
counts_limits b e =
    let a = and-true _ (leb (area_length b) 4096) e in
    let m = and-true _ (leb (name_count b) 128) a.0 in
    let f = and-true _ (leb 1 (field_count b) && leb (field_count b) 16) m.0 in
    let g = and-true (leb 1 (field_count b)) (leb (field_count b) 16) f.1 in
    let n = and-true (leb 8 (length b)) (leb 1 (node_count b) && leb (node_count b) 64) f.0 in
    let k = and-true (leb 1 (node_count b)) (leb (node_count b) 64) n.1 in (
      (leb-true 1 (node_count b) k.0, leb-true (node_count b) 64 k.1),
      (leb-true 1 (field_count b) g.0, leb-true (field_count b) 16 g.1),
      leb-true (name_count b) 128 m.1,
      leb-true (area_length b) 4096 a.1,
    )

pub length_counts : (b : List ℕ) → length_good b ≡ true → CountsMade b
unfolding length_good form_length area_at names_at nodes_at
length_counts b e =
    let l = and-true (counts_good b) (eqb (form_length b) (length b)) e in
    let (nodes, fields, names, area) = counts_limits b l.0 in
    record { nodes = nodes; fields = fields; names = names; area = area; exact = sym (eqb-true (form_length b) (length b) l.1) }

pub counts_length : (b : List ℕ) → CountsMade b → length_good b ≡ true
unfolding length_good counts_good form_length area_at names_at nodes_at
counts_length b w =
    let exact = w.exact in
    rw (
      le-leb 8 (length b) (omega arith),
      le-leb 1 (node_count b) w.nodes.0,
      le-leb (node_count b) 64 w.nodes.1,
      le-leb 1 (field_count b) w.fields.0,
      le-leb (field_count b) 16 w.fields.1,
      le-leb (name_count b) 128 w.names,
      le-leb (area_length b) 4096 w.area,
    )
    (eq-eqb (form_length b) (length b) (sym exact))

-- ---- name records
type_most : (t : ℕ) (s : List ℕ) → type_good t s ≡ true → t ≤ 2
unfolding type_good
type_most t s =
    branch (eqb t 0) _ _ (λ e _. let z = eqb-true t 0 e in omega arith)
    (branch (eqb t 1) _ _ (λ e _. let z = eqb-true t 1 e in omega arith) (λ e. let z = eqb-true t 2 e in omega arith))

type_good_lem :
    (t : ℕ) (s : List ℕ)
    → t ≤ 2
    → (t ≡ 0 → (c : ℕ) × (one_character s ≡ some c))
    → (t ≡ 1 → well_formed s ≡ true)
    → type_good t s ≡ true
unfolding type_good is_some
type_good_lem zero s h f g = let (c, e) = f refl in rw e
type_good_lem (suc zero) s h f g = g refl
type_good_lem (suc (suc zero)) s h f g = refl
type_good_lem (suc (suc (suc t))) s h f g = absurd (omega arith)

type_long : (t : ℕ) (s : List ℕ) → type_good t s ≡ true → t ≡ 1 → well_formed s ≡ true
unfolding type_good
type_long t s g e = subst (λ (t : ℕ). type_good t s ≡ true) e g

module _ (area : List ℕ) where
  pub name_made : (m : Name) → NameGood area m → NameMade area m
  unfolding name_good
  name_made m g =
      let p = and-true (leb (m.offset + m.size) (length area)) (type_good m.type (name_bytes area m)) g in
      record {
        type = type_most m.type (name_bytes area m) p.1;
        inside = leb-true (m.offset + m.size) (length area) p.0;
        short = λ e. short_one area m g (eq-eqb m.type 0 e);
        long = type_long m.type (name_bytes area m) p.1;
      }

  pub each_made : (l : List Name) → All (NameGood area) l → All (NameMade area) l
  each_made = All-map (NameGood area) (NameMade area) name_made

  pub name_good_lem : (m : Name) → NameMade area m → NameGood area m
  unfolding name_good
  name_good_lem m w =
      both (le-leb (m.offset + m.size) (length area) w.inside)
      (type_good_lem m.type (name_bytes area m) w.type w.short w.long)

  pub each_good : (l : List Name) → All (NameMade area) l → All (NameGood area) l
  each_good = All-map (NameMade area) (NameGood area) name_good_lem

-- ---- kinds
base_same : (a b : Base) → same_base a b ≡ true → a ≡ b
unfolding same_base base_number
base_same yes_no yes_no e = refl
base_same yes_no text e = absurd (false≢true e)
base_same yes_no number e = absurd (false≢true e)
base_same text yes_no e = absurd (false≢true e)
base_same text text e = refl
base_same text number e = absurd (false≢true e)
base_same number yes_no e = absurd (false≢true e)
base_same number text e = absurd (false≢true e)
base_same number number e = refl

kind_same : (b : Base) (k : Kind) → same_kind (one b) k ≡ true → k ≡ one b
unfolding same_kind shape_of inner_base
kind_same b (one c) e = ap {B = Kind} one (sym (base_same b c e))
kind_same b (optional c) e = absurd (false≢true e)
kind_same b (list c) e = absurd (false≢true e)
kind_same b (list_of_optional c) e = absurd (false≢true e)
kind_same b (optional_list c) e = absurd (false≢true e)

-- a base kind takes that base alone, and gives it
base_kind_lem : (b : Base) (k l : Kind) → base_kind b k ≡ some l → (k ≡ one b) × (l ≡ one b)
unfolding base_kind
base_kind_lem b k l e =
    let p = if_some (same_kind (one b) k) (some k) e in
    let q = kind_same b k p.0 in
    (q, sym (some-injective k l p.1) ∙ q)

base_takes : (b : Base) → base_kind b (one b) ≡ some (one b)
unfolding base_kind same_kind shape_of inner_base same_base base_number
base_takes yes_no = refl
base_takes text = refl
base_takes number = refl

-- the base of an argument and of a positional, by r
abbrev argument_base : ℕ → Base
argument_base r = if leb 2 r then number else text

abbrev positional_base : ℕ → Base
positional_base r = if eqb r 2 then number else text

argument_base_lem : (r : ℕ) (k : Kind) → r ≤ 3 → k ≡ one (argument_base r) → ((r ≤ 1) × (k ≡ one text)) ⊎ ((2 ≤ r) × (r ≤ 3) × (k ≡ one number))
argument_base_lem r k h e = go (leb 2 r) refl
  where
    go : (b : Bool) → leb 2 r ≡ b → ((r ≤ 1) × (k ≡ one text)) ⊎ ((2 ≤ r) × (r ≤ 3) × (k ≡ one number))
    go true t = inr (leb-true 2 r t, h, e ∙ ap {B = Kind} one (if_true (leb 2 r) number text t))
    go false t = let l = leb-false 2 r t in inl (omega arith, e ∙ ap {B = Kind} one (if_false (leb 2 r) number text t))

or-true : (a b : Bool) → (a || b) ≡ true → (a ≡ true) ⊎ (b ≡ true)
or-true true b e = inl refl
or-true false b e = inr e

pub one_of_two : (a b r : ℕ) → contains (a ∷ b ∷ []) r ≡ true → (r ≡ a) ⊎ (r ≡ b)
unfolding contains
one_of_two a b r e =
    ⊎_elim (λ h. inl (sym (eqb-true a r h)))
    (λ h. ⊎_elim (λ g. inr (sym (eqb-true b r g))) (λ g. absurd (false≢true g)) (or-true (eqb b r) false h))
    (or-true (eqb a r) (eqb b r || false) e)

positional_base_lem :
    (r : ℕ) (k : Kind)
    → contains (0 ∷ 2 ∷ []) r ≡ true
    → k ≡ one (positional_base r)
    → ((r ≡ 0) × (k ≡ one text)) ⊎ ((r ≡ 2) × (k ≡ one number))
positional_base_lem r k h e =
    ⊎_elim
    (λ z. inl (z, subst (λ (r : ℕ). k ≡ one (positional_base r)) z e))
    (λ z. inr (z, subst (λ (r : ℕ). k ≡ one (positional_base r)) z e))
    (one_of_two 0 2 r h)

-- ---- the value of a fallback
fallback_fits :
    (f : Form) (x : Node) (k : Kind) (v : BaseValue)
    → fallback_value f x k ≡ some v
    → (b : Base) × (k ≡ one b) × FallbackMade f x b
unfolding fallback_value
fallback_fits f x (one yes_no) v e =
    let p = if_some (leb x.lo 1 && zeros (x.r ∷ x.hi ∷ [])) _ e in
    let q = and-true (leb x.lo 1) (zeros (x.r ∷ x.hi ∷ [])) p.0 in
    (yes_no, refl, (leb-true x.lo 1 q.0, zeros_unused _ q.1))
fallback_fits f x (one text) v e =
    let good : Name → Bool = λ m. eqb m.type 2 && zeros (x.lo ∷ x.hi ∷ []) in
    let (m, h, g) = bind_some (get_elem? f.names x.r) (λ m. if good m then some (is_text (name x.r)) else none) e in
    let p = if_some (good m) (some (is_text (name x.r))) g in
    let q = and-true (eqb m.type 2) (zeros (x.lo ∷ x.hi ∷ [])) p.0 in
    (text, refl, ((m, h, eqb-true m.type 2 q.0), zeros_unused _ q.1))
fallback_fits f x (one number) v e = let p = if_some (zeros (x.r ∷ x.hi ∷ [])) _ e in (number, refl, zeros_unused _ p.0)
fallback_fits f x (optional b) v e = absurd (none-ne-some v e)
fallback_fits f x (list b) v e = absurd (none-ne-some v e)
fallback_fits f x (list_of_optional b) v e = absurd (none-ne-some v e)
fallback_fits f x (optional_list b) v e = absurd (none-ne-some v e)

fallback_value_lem :
    (f : Form) (x : Node) (b : Base)
    → FallbackMade f x b
    → (v : BaseValue) × (fallback_value f x (one b) ≡ some v) × (base_of v ≡ b)
unfolding fallback_value base_of
fallback_value_lem f x yes_no (l, u) =
    (is_yes (eqb x.lo 1), if_true _ _ _ (both (le-leb x.lo 1 l) (unused_zeros (x.r ∷ x.hi ∷ []) u)), refl)
fallback_value_lem f x text ((m, h, t), u) = (
  is_text (name x.r),
  bind_is (get_elem? f.names x.r) _ h ∙ if_true _ _ _ (both (eq-eqb m.type 2 t) (unused_zeros (x.lo ∷ x.hi ∷ []) u)),
  refl,
)
fallback_value_lem f x number u = (is_number x.lo, if_true _ _ _ (unused_zeros (x.r ∷ x.hi ∷ []) u), refl)

-- ---- from acceptance: the kind of each node, and whether it repeats, are those of its tree
kind_at : List Tree → ℕ → Kind
kind_at ts k = elim (get_elem? ts k >>? kind_of) [ none ↦ one yes_no | some κ ↦ κ ]

repeats_at : List Tree → ℕ → Bool
repeats_at ts k = elim (get_elem? ts k) [ none ↦ false | some t ↦ has_repeat t ]

names_made : (f : Form) (x : Node) (l : List Name) → names_of f x ≡ some l → NamesMade f x
unfolding null
names_made f x l e =
    let n = names_some f x l e in
    let same = sym n.part in
    record {
      more = more x.q refl (rw same at n.more);
      inside = n.inside;
      types = types (take x.q (drop x.p f.names)) (subst (All (λ (m : Name). leb m.type 1 ≡ true)) same n.types);
    }
  where
    more : (q : ℕ) → x.q ≡ q → null (take x.q (drop x.p f.names)) ≡ false → 1 ≤ x.q
    more zero z e = absurd (true≢false (rw (z, null) at e))
    more (suc q) z e = omega arith

    types : (l : List Name) → All (λ (m : Name). leb m.type 1 ≡ true) l → All (λ (m : Name). m.type ≤ 1) l
    types [] h = tt
    types (m ∷ l) h = (leb-true m.type 1 h.0, types l h.1)

module _ (ts : List Tree) where
  kind_at_lem : (k : ℕ) (t : Tree) (κ : Kind) → get_elem? ts k ≡ some t → kind_of t ≡ some κ → kind_at ts k ≡ κ
  unfolding kind_at ◌>>?◌
  kind_at_lem k t κ h e = rw (h, e, kind_at)

  repeats_at_lem : (k : ℕ) (t : Tree) → get_elem? ts k ≡ some t → repeats_at ts k ≡ has_repeat t
  unfolding repeats_at
  repeats_at_lem k t h = rw (h, repeats_at)

  -- the kind of a node with one child
  child_kind :
      (k i : ℕ) (t c : Tree) (g : Kind → Option Kind)
      → get_elem? ts k ≡ some t
      → get_elem? ts i ≡ some c
      → kind_of t ≡ (kind_of c >>? g)
      → is_some (kind_of t) ≡ true
      → g (kind_at ts i) ≡ some (kind_at ts k)
  child_kind k i t c g s h e o =
      let (κ, m) = is_some_lem (kind_of t) o in
      let (κc, n, r) = bind_some (kind_of c) g (sym e ∙ m) in
      rw (kind_at_lem k t κ s m, kind_at_lem i c κc h n) r

  module _ (f : Form) (k : ℕ) (x : Node) where
    node_made : (t : Tree) → get_elem? ts k ≡ some t → Made f ts k x t → NodeMade f (kind_at ts) (repeats_at ts) k x
    unfolding kind_of has_repeat
    node_made t s (flag_made l z r u n) = flag_row z (names_made f x l n) r u (kind_at_lem k _ _ s refl) (repeats_at_lem k _ s)
    node_made t s (argument_made l z r u n) =
        argument_row z (names_made f x l n) u (argument_base_lem x.r _ r (kind_at_lem k _ _ s refl)) (repeats_at_lem k _ s)
    node_made t s (positional_made z p r u) = positional_row z p u (positional_base_lem x.r _ r (kind_at_lem k _ _ s refl)) (repeats_at_lem k _ s)
    node_made t s (optional_made b c z r u h e) =
        optional_row z h.0 r u (child_kind k x.p _ c optional_kind s h.1 refl e)
        (repeats_at_lem k _ s ∙ sym (repeats_at_lem x.p c h.1))
    node_made t s (many_made b c z r u h a e) =
        list_row (inl z) h.0 r u (child_kind k x.p _ c list_kind s h.1 refl e) (repeats_at_lem x.p c h.1 ∙ a) (repeats_at_lem k _ s)
    node_made t s (some_made b c z r u h a e) =
        list_row (inr z) h.0 r u (child_kind k x.p _ c list_kind s h.1 refl e) (repeats_at_lem x.p c h.1 ∙ a) (repeats_at_lem k _ s)
    node_made t s (count_made c z u h a e) =
        count_row z h.0 u (child_kind k x.p _ c count_kind s h.1 refl e) (repeats_at_lem x.p c h.1 ∙ a) (repeats_at_lem k _ s)
    node_made t s (last_made c z u h a e) =
        last_row z h.0 u (child_kind k x.p _ c last_kind s h.1 refl e) (repeats_at_lem x.p c h.1 ∙ a) (repeats_at_lem k _ s)
    node_made t s (choice_made c d z u h g e) =
        let (κ, m) = is_some_lem (kind_of (Choice c d)) e in
        let (κc, n, r) = bind_some (kind_of c) (λ a. kind_of d >>? λ b. choice_kind a b) m in
        let (κd, o, v) = bind_some (kind_of d) (choice_kind κc) r in
        choice_row z h.0 g.0 u (rw (kind_at_lem k _ κ s m, kind_at_lem x.p c κc h.1 n, kind_at_lem x.q d κd g.1 o) v)
        (rw (repeats_at_lem x.p c h.1, repeats_at_lem x.q d g.1) (repeats_at_lem k _ s))
    node_made t s (fallback_made c κ v z u h g w e) =
        let (b, same, fits) = fallback_fits f x κ v w in
        let at : kind_at ts x.p ≡ κ = kind_at_lem x.p c κ h.1 g in
        let q = base_kind_lem (base_of v) (kind_at ts x.p) (kind_at ts k) (child_kind k x.p _ c (base_kind (base_of v)) s h.1 refl e) in
        fallback_row b z h.0 u.0 fits (at ∙ same) (q.1 ∙ sym q.0 ∙ at ∙ same) (repeats_at_lem k _ s ∙ sym (repeats_at_lem x.p c h.1))
    node_made t s (guard_made c z u h l e) =
        let q = base_kind_lem number (kind_at ts x.p) (kind_at ts k) (child_kind k x.p _ c (base_kind number) s h.1 refl e) in
        guard_row z h.0 u l q.0 q.1 (repeats_at_lem k _ s ∙ sym (repeats_at_lem x.p c h.1))

trees_at_lem :
    (f : Form) (ts : List Tree) (j : ℕ) (xs : List Node)
    → TreesAt f ts j xs
    → (k : ℕ) (x : Node)
    → get_elem? xs k ≡ some x
    → TreeAt f ts (j + k) x
trees_at_lem f ts j [] h k x e = absurd (none-ne-some x e)
trees_at_lem f ts j (y ∷ xs) h zero x e =
    subst (λ (n : ℕ). TreeAt f ts n x) (sym (add-zero j)) (subst (TreeAt f ts j) (some-injective y x e) h.0)
trees_at_lem f ts j (y ∷ xs) h (suc k) x e =
    let same : suc j + k ≡ j + suc k = omega arith in
    subst (λ (n : ℕ). TreeAt f ts n x) same (trees_at_lem f ts (suc j) xs h.1 k x e)

-- ---- all of it
pub node_count_lem : (b : List ℕ) → length (read_form b).nodes ≡ node_count b
unfolding read_form
node_count_lem b = length-map (numbers (node_count b) 0) _ ∙ numbers_length (node_count b) 0

-- nodes that have trees are made
pub nodes_made :
    (f : Form) (xs : List Node) (ts : List Tree) (n : ℕ)
    → trees_from f [] xs ≡ accepted ts
    → ((k : ℕ) (x : Node) → k < n → get_elem? f.nodes k ≡ some x → get_elem? xs k ≡ some x)
    → NodesMade f n
nodes_made f xs ts n e part = record {
  kind = kind_at ts;
  repeats = repeats_at ts;
  each = λ k x l h.
      let at = trees_at_lem f ts 0 xs (trees_made f [] xs ts e) k x (part k x l h) in
      let t : TreeAt f ts k x = subst (λ (n : ℕ). TreeAt f ts n x) (zero-add k) at in
      node_made ts f k x t.tree t.stands t.made;
}

pub trees_count : (b : List ℕ) (ts : List Tree) → trees_from (read_form b) [] (read_form b).nodes ≡ accepted ts → length ts ≡ node_count b
trees_count b ts e =
    trees_length (read_form b) [] (read_form b).nodes ts e ∙ zero-add (length (read_form b).nodes) ∙ node_count_lem b

pub fields_made :
    (b : List ℕ) (ts us : List Tree)
    → trees_from (read_form b) [] (read_form b).nodes ≡ accepted ts
    → trees_at ts (read_form b).fields ≡ some us
    → All (λ (k : ℕ). k < node_count b) (read_form b).fields
fields_made b ts us e g =
    let ks = (read_form b).fields in
    subst (λ (n : ℕ). All (λ (k : ℕ). k < n) ks) (trees_count b ts e) (fields_inside ts ks us g)

-- an accepted form is well made
pub well_made : (b : List ℕ) (a : Accepted) → check_form b ≡ accepted a → WellMade b
well_made b a e =
    let f = read_form b in
    let p = accepted_passed b a e in
    let once = used_once_lem f (numbers (length f.nodes) 0) (no_fault (used_once f) 0 (numbers (length f.nodes) 0) p.once) in
    let count = node_count_lem b in
    record {
      counts = length_counts b (accepted_length b a e);
      name_records = each_made f.area f.names p.names;
      node_records = nodes_made f f.nodes a.trees (node_count b) p.trees (λ k x l h. h);
      field_numbers = fields_made b a.trees a.fields p.trees p.fields;
      used_once = λ k l. numbers_all (λ (k : ℕ). occurrences k (uses f) ≡ 1) (length f.nodes) 0 once k (omega arith) (omega arith);
    }

-- ---- from well-madeness: each node has a tree, over the trees below it
names_is : (f : Form) (x : Node) → NamesMade f x → names_of f x ≡ some (take x.q (drop x.p f.names))
unfolding names_of slice null all
names_is f x n =
    let l : List Name = take x.q (drop x.p f.names) in
    let inside = n.inside in
    let more = n.more in
    let wide : (x.p + x.q) - x.p ≡ x.q = omega arith in
    let long = length-take x.q (drop x.p f.names) in
    let rest = length-drop x.p f.names in
    let some_left : 1 ≤ length l = omega arith in
    bind_is (slice x.p (x.p + x.q) f.names) _
    (if_true _ _ _ (both (le-leb x.p (x.p + x.q) (omega arith)) (le-leb (x.p + x.q) (length f.names) inside))
    ∙ ap (λ (w : ℕ). some (take w (drop x.p f.names))) wide)
    ∙ if_true _ _ _ (both (not_null l some_left) (types l n.types))
  where
    not_null : (l : List Name) → 1 ≤ length l → not (null l) ≡ true
    not_null [] h = absurd (omega arith)
    not_null (m ∷ l) h = refl

    types : (l : List Name) → All (λ (m : Name). m.type ≤ 1) l → all (λ (k : Name). leb k.type 1) l ≡ true
    types [] h = refl
    types (m ∷ l) h = both (le-leb m.type 1 h.0) (types l h.1)

fitting_is : (t : Tree) (κ : Kind) → kind_of t ≡ some κ → fitting t ≡ some t
unfolding fitting is_some
fitting_is t κ e = if_true (is_some (kind_of t)) (some t) none (rw e)

repeat_is : (make : Tree → Tree) (c : Tree) (κ : Kind) → has_repeat c ≡ false → kind_of (make c) ≡ some κ → repeat_of make c ≡ some (make c)
unfolding repeat_of
repeat_is make c κ h e = if_false (has_repeat c) none (fitting (make c)) h ∙ fitting_is (make c) κ e

-- the trees below are of the kinds that are told
abbrev pub Known : (ℕ → Kind) → (ℕ → Bool) → List Tree → Type 0
Known kind repeats below = (i : ℕ) (c : Tree) → get_elem? below i ≡ some c → (kind_of c ≡ some (kind i)) × (has_repeat c ≡ repeats i)

-- the tree of a node, by its kind
tree_by : Form → List Tree → Node → ℕ → Option Tree
tree_by f below x n =
    if eqb n 1 then flag_of f (length below) x else
    (if eqb n 2 then argument_of f (length below) x else
    (if eqb n 3 then positional_of (length below) x else
    (if eqb n 4 then caught_of below x (λ c t. fitting (Optional c t)) else
    (if eqb n 5 then caught_of below x (λ c. repeat_of (Many c)) else
    (if eqb n 6 then caught_of below x (λ c. repeat_of (Some c)) else
    (if eqb n 7 then child_of (x.r ∷ x.lo ∷ x.hi ∷ []) below x (repeat_of Count) else
    (if eqb n 8 then child_of (x.r ∷ x.lo ∷ x.hi ∷ []) below x (repeat_of Last) else
    (if eqb n 9 then choice_of below x else
    (if eqb n 10 then child_of [] below x (fallback_of f x) else
    (if eqb n 11 then child_of (x.r ∷ []) below x (guard_of x) else none))))))))))

module _ (f : Form) (kind : ℕ → Kind) (repeats : ℕ → Bool) (below : List Tree) (known : Known kind repeats below) (x : Node) where
  record Next : Type 0 where
    tree : Tree
    is : tree_of f below x ≡ some tree
    kinds : kind_of tree ≡ some (kind (length below))
    repeat : has_repeat tree ≡ repeats (length below)

  tree_is : (n : ℕ) (t : Tree) → x.kind ≡ n → tree_by f below x n ≡ some t → tree_of f below x ≡ some t
  unfolding tree_of tree_by
  tree_is n t z e = subst (λ (n : ℕ). tree_by f below x n ≡ some t) (sym z) e

  named_is : NamesMade f x → (m : Named) × (named_of f x ≡ some m)
  unfolding named_of
  named_is n = (_, bind_is (names_of f x) (λ l. some (named_by f.area l)) (names_is f x n))

  child_is :
      (unused : List ℕ) (make : Tree → Option Tree) (c : Tree)
      → Unused (x.q ∷ unused)
      → get_elem? below x.p ≡ some c
      → child_of unused below x make ≡ make c
  unfolding child_of
  child_is unused make c u h = if_true _ _ _ (unused_zeros (x.q ∷ unused) u) ∙ bind_is (get_elem? below x.p) make h

  caught_is :
      (make : Bool → Tree → Option Tree) (c : Tree)
      → x.r ≤ 1
      → Unused (x.q ∷ x.lo ∷ x.hi ∷ [])
      → get_elem? below x.p ≡ some c
      → caught_of below x make ≡ make (eqb x.r 1) c
  unfolding caught_of
  caught_is make c r u h = if_true _ _ _ (le-leb x.r 1 r) ∙ child_is (x.lo ∷ x.hi ∷ []) (make (eqb x.r 1)) c u h

  -- the child p
  child :
      x.p < length below
      → (c : Tree) × (get_elem? below x.p ≡ some c) × (kind_of c ≡ some (kind x.p)) × (has_repeat c ≡ repeats x.p)
  child l =
      let (c, h) = lookup_some below x.p l in
      let k = known x.p c h in
      (c, h, k.0, k.1)

  -- a node of kind n with the tree t
  next_is :
      (n : ℕ) (t : Tree)
      → x.kind ≡ n
      → (kind_of t ≡ some (kind (length below)) → tree_by f below x n ≡ some t)
      → kind_of t ≡ some (kind (length below))
      → has_repeat t ≡ repeats (length below)
      → Next
  next_is n t z e k r = record { tree = t; is = tree_is n t z (e k); kinds = k; repeat = r }

  argument_next :
      x.kind ≡ 2
      → NamesMade f x
      → x.r ≤ 3
      → Unused (x.lo ∷ x.hi ∷ [])
      → one (argument_base x.r) ≡ kind (length below)
      → repeats (length below) ≡ false
      → Next
  unfolding kind_of has_repeat tree_by argument_of
  argument_next z n r u e s =
      let (m, h) = named_is n in
      next_is 2 (Argument (length below) m (argument_base x.r) (eqb (x.r % 2) 1)) z
      (λ k. if_true _ _ _ (both (le-leb x.r 3 r) (unused_zeros (x.lo ∷ x.hi ∷ []) u)) ∙ bind_is (named_of f x) _ h)
      (ap {B = Option Kind} some e) (sym s)

  -- r is 0 or 2
  positional_next :
      (r : ℕ)
      → contains (0 ∷ 2 ∷ []) r ≡ true
      → x.r ≡ r
      → x.kind ≡ 3
      → x.p ≤ 2
      → Unused (x.q ∷ x.lo ∷ x.hi ∷ [])
      → one (positional_base r) ≡ kind (length below)
      → repeats (length below) ≡ false
      → Next
  unfolding kind_of has_repeat tree_by positional_of
  positional_next r c w z l u e s =
      let test : contains (0 ∷ 2 ∷ []) x.r ≡ true = subst (λ (r : ℕ). contains (0 ∷ 2 ∷ []) r ≡ true) (sym w) c in
      next_is 3 (Positional (length below) (position_of x.p) (positional_base x.r)) z
      (λ k. if_true _ _ _ (both (both (le-leb x.p 2 l) test) (unused_zeros (x.q ∷ x.lo ∷ x.hi ∷ []) u)))
      (ap {B = Option Kind} some (subst (λ (r : ℕ). one (positional_base r) ≡ kind (length below)) (sym w) e)) (sym s)

  next : NodeMade f kind repeats (length below) x → Next
  unfolding kind_of has_repeat tree_by flag_of choice_of fallback_of guard_of contains
  next (flag_row z n r u e s) =
      let (m, h) = named_is n in
      next_is 1 (Flag (length below) m (eqb x.r 1)) z
      (λ k. if_true _ _ _ (both (le-leb x.r 1 r) (unused_zeros (x.lo ∷ x.hi ∷ []) u)) ∙ bind_is (named_of f x) _ h)
      (ap {B = Option Kind} some (sym e)) (sym s)
  next (argument_row z n u (inl (r, e)) s) =
      let test = lt-leb 2 x.r (omega arith) in
      argument_next z n (omega arith) u (ap {B = Kind} one (if_false (leb 2 x.r) number text test) ∙ sym e) s
  next (argument_row z n u (inr (l, r, e)) s) =
      argument_next z n r u (ap {B = Kind} one (if_true (leb 2 x.r) number text (le-leb 2 x.r l)) ∙ sym e) s
  next (positional_row z l u (inl (r, e)) s) = positional_next 0 refl r z l u (sym e) s
  next (positional_row z l u (inr (r, e)) s) = positional_next 2 refl r z l u (sym e) s
  next (optional_row z l r u e s) =
      let (c, h, kc, rc) = child l in
      next_is 4 (Optional (eqb x.r 1) c) z (λ k. caught_is (λ b c. fitting (Optional b c)) c r u h ∙ fitting_is _ _ k)
      (bind_is (kind_of c) optional_kind kc ∙ e) (rc ∙ sym s)
  next (list_row (inl z) l r u e a s) =
      let (c, h, kc, rc) = child l in
      next_is 5 (Many (eqb x.r 1) c) z (λ k. caught_is (λ b. repeat_of (Many b)) c r u h ∙ repeat_is (Many (eqb x.r 1)) c _ (rc ∙ a) k)
      (bind_is (kind_of c) list_kind kc ∙ e) (sym s)
  next (list_row (inr z) l r u e a s) =
      let (c, h, kc, rc) = child l in
      next_is 6 (Some (eqb x.r 1) c) z (λ k. caught_is (λ b. repeat_of (Some b)) c r u h ∙ repeat_is (Some (eqb x.r 1)) c _ (rc ∙ a) k)
      (bind_is (kind_of c) list_kind kc ∙ e) (sym s)
  next (count_row z l u e a s) =
      let (c, h, kc, rc) = child l in
      next_is 7 (Count c) z (λ k. child_is (x.r ∷ x.lo ∷ x.hi ∷ []) (repeat_of Count) c u h ∙ repeat_is Count c _ (rc ∙ a) k)
      (bind_is (kind_of c) count_kind kc ∙ e) (sym s)
  next (last_row z l u e a s) =
      let (c, h, kc, rc) = child l in
      next_is 8 (Last c) z (λ k. child_is (x.r ∷ x.lo ∷ x.hi ∷ []) (repeat_of Last) c u h ∙ repeat_is Last c _ (rc ∙ a) k)
      (bind_is (kind_of c) last_kind kc ∙ e) (sym s)
  next (choice_row z l m u e s) =
      let (c, h, kc, rc) = child l in
      let (d, g) = lookup_some below x.q m in
      let (kd, rd) = known x.q d g in
      next_is 9 (Choice c d) z
      (λ k. if_true _ _ _ (unused_zeros (x.r ∷ x.lo ∷ x.hi ∷ []) u)
      ∙ bind_is (get_elem? below x.p) (λ t. get_elem? below x.q >>? λ u. fitting (Choice t u)) h
      ∙ bind_is (get_elem? below x.q) (λ u. fitting (Choice c u)) g
      ∙ fitting_is (Choice c d) _ k)
      (bind_is (kind_of c) (λ a. kind_of d >>? λ b. choice_kind a b) kc ∙ bind_is (kind_of d) (choice_kind (kind x.p)) kd ∙ e)
      (rw (rc, rd) (sym s))
  next (fallback_row b z l q v kp kk s) =
      let (c, h, kc, rc) = child l in
      let (w, fv, bv) = fallback_value_lem f x b v in
      let kb : kind_of c ≡ some (one b) = kc ∙ ap {B = Option Kind} some kp in
      next_is 10 (Fallback w c) z
      (λ k. child_is [] (fallback_of f x) c (q, tt) h
      ∙ bind_is (kind_of c) (λ k. fallback_value f x k >>? λ v. fitting (Fallback v c)) kb
      ∙ bind_is (fallback_value f x (one b)) (λ v. fitting (Fallback v c)) fv
      ∙ fitting_is (Fallback w c) _ k)
      (bind_is (kind_of c) (base_kind (base_of w)) kb ∙ rw (bv, base_takes b) (ap {B = Option Kind} some (sym kk))) (rc ∙ sym s)
  next (guard_row z l u m kp kk s) =
      let (c, h, kc, rc) = child l in
      next_is 11 (Guard x.lo x.hi c) z
      (λ k. child_is (x.r ∷ []) (guard_of x) c u h ∙ if_true _ _ _ (le-leb x.lo x.hi m) ∙ fitting_is _ _ k)
      (bind_is (kind_of c) (base_kind number) (kc ∙ ap {B = Option Kind} some kp) ∙ base_takes number ∙ ap {B = Option Kind} some (sym kk))
      (rc ∙ sym s)

-- ---- all nodes
module _ (f : Form) (kind : ℕ → Kind) (repeats : ℕ → Bool) where
  known_more :
      (below : List Tree) (t : Tree)
      → Known kind repeats below
      → kind_of t ≡ some (kind (length below))
      → has_repeat t ≡ repeats (length below)
      → Known kind repeats (below ++ (t ∷ []))
  known_more below t h k r i c e =
      ⊎_elim (λ g. h i c g)
      (λ (g : (i ≡ length below) × (t ≡ c)). rw (g.0, ← g.1) (k, r))
      (lookup_snoc below t i c e)

  trees_is :
      (below : List Tree) (xs : List Node)
      → Known kind repeats below
      → ((j : ℕ) (x : Node) → get_elem? xs j ≡ some x → NodeMade f kind repeats (length below + j) x)
      → (ts : List Tree) × (trees_from f below xs ≡ accepted ts) × Known kind repeats ts
  unfolding trees_from
  trees_is below [] h n = (below, refl, h)
  trees_is below (x ∷ xs) h n =
      let this : NodeMade f kind repeats (length below) x =
      subst (λ (k : ℕ). NodeMade f kind repeats k x) (add-zero (length below)) (n 0 x refl) in
      let m = next f kind repeats below h x this in
      let long = length-append below (m.tree ∷ []) in
      let (ts, e, all) =
      trees_is (below ++ (m.tree ∷ [])) xs (known_more below m.tree h m.kinds m.repeat)
      (λ j y g.
      let same : length below + suc j ≡ length (below ++ (m.tree ∷ [])) + j = omega arith in
      subst (λ (k : ℕ). NodeMade f kind repeats k y) same (n (suc j) y g)) in
      (ts, rw (m.is, trees_from) e, all)

-- nodes that are made have trees, of the kinds told
pub nodes_trees :
    (f : Form) (xs : List Node) (n : ℕ)
    → (w : NodesMade f n)
    → ((k : ℕ) (x : Node) → get_elem? xs k ≡ some x → (k < n) × (get_elem? f.nodes k ≡ some x))
    → (ts : List Tree) × (trees_from f [] xs ≡ accepted ts) × Known w.kind w.repeats ts
nodes_trees f xs n w part =
    trees_is f w.kind w.repeats [] xs (λ i c h. absurd (none-ne-some c h))
    (λ j x h. let (l, g) = part j x h in
    subst (λ (k : ℕ). NodeMade f w.kind w.repeats k x) (sym (zero-add j)) (w.each j x l g))

-- ---- the fields, and the uses
pub fields_is : (ts : List Tree) (ks : List ℕ) → All (λ (k : ℕ). k < length ts) ks → (us : List Tree) × (trees_at ts ks ≡ some us)
unfolding trees_at
fields_is ts [] h = ([], refl)
fields_is ts (k ∷ ks) h =
    let (t, e) = lookup_some ts k h.0 in
    let (us, g) = fields_is ts ks h.1 in
    (t ∷ us, bind_is (get_elem? ts k) (λ t. trees_at ts ks >>? λ vs. some (t ∷ vs)) e ∙ bind_is (trees_at ts ks) (λ vs. some (t ∷ vs)) g)

records_accepted :
    (f : Form) (ts us : List Tree)
    → first_fault (name_good f.area) 0 f.names ≡ none
    → trees_from f [] f.nodes ≡ accepted ts
    → trees_at ts f.fields ≡ some us
    → first_fault (used_once f) 0 (numbers (length f.nodes) 0) ≡ none
    → check_records f ≡ accepted (record { form = f; trees = ts; fields = us })
unfolding check_records check_use
records_accepted f ts us n t u o = rw (n, t, check_records, u, o, check_use)

-- a form that is well made is accepted
pub made_accepted : (b : List ℕ) → WellMade b → (a : Accepted) × (check_form b ≡ accepted a)
unfolding check_form used_once
made_accepted b w =
    let f = read_form b in
    let count = node_count_lem b in
    let (ts, e, all) =
    nodes_trees f f.nodes (node_count b) w.node_records (λ j x h. let l = lookup_inside f.nodes j x h in (omega arith, h)) in
    let (us, g) = fields_is ts f.fields (subst (λ (n : ℕ). All (λ (k : ℕ). k < n) f.fields) (sym (trees_count b ts e)) w.field_numbers) in
    let names =
    good_no_fault (name_good f.area) 0 f.names (each_good f.area f.names w.name_records) in
    let once =
    good_no_fault (used_once f) 0 (numbers (length f.nodes) 0)
    (numbers_each (λ (k : ℕ). used_once f k ≡ true) (length f.nodes) 0
    (λ k l m. eq-eqb (occurrences k (uses f)) 1 (w.used_once k (omega arith)))) in (
      record { form = f; trees = ts; fields = us },
      if_true (length_good b) (check_records f) (refused_at 1 none) (counts_length b w.counts) ∙ records_accepted f ts us names e g once,
    )

-- a form that is refused is not well made
pub refused_not_made : (b : List ℕ) (n : ℕ) (k : Option ℕ) → check_form b ≡ refused_at n k → WellMade b → ⊥
refused_not_made b n k e w = let (a, h) = made_accepted b w in refused_not n k a (sym e ∙ h)

-- ---- what is at fault where the form check refuses
-- the lowest element that fails a test
record Lowest (A : Type 0) (p : A → Bool) (j : ℕ) (l : List A) (k : ℕ) : Type 0 where
  at : ℕ
  element : A
  place : j + at ≡ k
  stands : get_elem? l at ≡ some element
  fails : p element ≡ false
  lower : All (λ (a : A). p a ≡ true) (take at l)

first_fault_lem : {A : Type 0} (p : A → Bool) (j : ℕ) (l : List A) (k : ℕ) → first_fault p j l ≡ some k → Lowest A p j l k
unfolding first_fault
first_fault_lem p j [] k e = absurd (none-ne-some k e)
first_fault_lem {A} p j (x ∷ l) k e = go (p x) refl (first_fault_lem p (suc j) l k) e
  where
    go :
        (t : Bool)
        → p x ≡ t
        → (first_fault p (suc j) l ≡ some k → Lowest A p (suc j) l k)
        → (if t then first_fault p (suc j) l else some j) ≡ some k
        → Lowest A p j (x ∷ l) k
    go true h rest e =
        let r = rest e in
        let here = r.place in
        record { at = suc r.at; element = r.element; place = omega arith; stands = r.stands; fails = r.fails; lower = (h, r.lower) }
    go false h rest e =
        let here = some-injective j k e in
        record { at = 0; element = x; place = omega arith; stands = refl; fails = h; lower = tt }

-- the same among numbers
pub first_number :
    (p : ℕ → Bool) (n j k : ℕ)
    → first_fault p j (numbers n j) ≡ some k
    → (j ≤ k) × (k < j + n) × (p k ≡ false) × ((i : ℕ) → j ≤ i → i < k → p i ≡ true)
unfolding first_fault numbers
first_number p zero j k e = absurd (none-ne-some k e)
first_number p (suc n) j k e = go (p j) refl (first_number p n (suc j) k) e
  where
    Says : ℕ → ℕ → Type 0
    Says n j = (j ≤ k) × (k < j + n) × (p k ≡ false) × ((i : ℕ) → j ≤ i → i < k → p i ≡ true)

    go :
        (t : Bool)
        → p j ≡ t
        → (first_fault p (suc j) (numbers n (suc j)) ≡ some k → Says n (suc j))
        → (if t then first_fault p (suc j) (numbers n (suc j)) else some j) ≡ some k
        → Says (suc n) j
    go true h rest e =
        let (a, b, c, d) = rest e in
        (omega arith, omega arith, c, λ i l m. ⊎_elim (λ (z : j ≡ i). rw z at h) (λ (z : j < i). d i (omega arith) m) (eq-or-lt_of_le l))
    go false h rest e =
        let z = some-injective j k e in
        (omega arith, omega arith, rw z at h, λ i l m. absurd (omega arith))

-- lookups
lookup_take : {A : Type 0} (n : ℕ) (l : List A) (i : ℕ) → i < n → get_elem? (take n l) i ≡ get_elem? l i
lookup_take zero l i h = absurd (omega arith)
lookup_take (suc n) [] i h = refl
lookup_take (suc n) (x ∷ l) zero h = refl
lookup_take (suc n) (x ∷ l) (suc i) h = lookup_take n l i (omega arith)

take_inside : {A : Type 0} (n : ℕ) (l : List A) (i : ℕ) (a : A) → get_elem? (take n l) i ≡ some a → i < n
take_inside n l i a e = let h = lookup_inside (take n l) i a e in let m = length-take n l in omega arith

lookup_none : {A : Type 0} (l : List A) (i : ℕ) → get_elem? l i ≡ none → length l ≤ i
lookup_none [] i e = omega arith
lookup_none (x ∷ l) zero e = absurd (none-ne-some x (sym e))
lookup_none (x ∷ l) (suc i) e = let h = lookup_none l i e in omega arith

-- a refusal is its number and place
refused_number : {A : Type 0} (m n : ℕ) (j k : Option ℕ) → ◌≡◌ {A = Checked A} (refused_at m j) (refused_at n k) → n ≡ m
refused_number m n j k e = cc

refused_place : {A : Type 0} (m n : ℕ) (j k : Option ℕ) → ◌≡◌ {A = Checked A} (refused_at m j) (refused_at n k) → k ≡ j
refused_place m n j k e = cc

-- where the trees end
pub record Stopped (f : Form) (below : List Tree) (xs : List Node) (n : ℕ) (k : Option ℕ) : Type 0 where
  pub at : ℕ
  pub node : Node
  pub trees : List Tree
  pub number : n ≡ 3
  pub place : k ≡ some (length below + at)
  pub stands : get_elem? xs at ≡ some node
  pub lower : trees_from f below (take at xs) ≡ accepted trees
  pub fails : tree_of f trees node ≡ none

pub trees_refused :
    (f : Form) (below : List Tree) (xs : List Node) (n : ℕ) (k : Option ℕ)
    → trees_from f below xs ≡ refused_at n k
    → Stopped f below xs n k
unfolding trees_from
trees_refused f below [] n k e = absurd (refused_not n k below (sym e))
trees_refused f below (x ∷ xs) n k e = go (tree_of f below x) refl (λ t. trees_refused f (below ++ (t ∷ [])) xs n k)
  where
    go :
        (o : Option Tree)
        → tree_of f below x ≡ o
        → ((t : Tree) → trees_from f (below ++ (t ∷ [])) xs ≡ refused_at n k → Stopped f (below ++ (t ∷ [])) xs n k)
        → Stopped f below (x ∷ xs) n k
    go none h rest =
        let here : ◌≡◌ {A = Checked (List Tree)} (refused_at 3 (some (length below))) (refused_at n k) = rw (h, trees_from) at e in
        record {
          at = 0;
          node = x;
          trees = below;
          number = refused_number 3 n (some (length below)) k here;
          place = refused_place 3 n (some (length below)) k here ∙ ap {B = Option ℕ} some (sym (add-zero (length below)));
          stands = refl;
          lower = refl;
          fails = h;
        }
    go (some t) h rest =
        let r = rest t (rw (h, trees_from) at e) in
        let long = length-append below (t ∷ []) in
        let same : length (below ++ (t ∷ [])) + r.at ≡ length below + suc r.at = omega arith in
        record {
          at = suc r.at;
          node = r.node;
          trees = r.trees;
          number = r.number;
          place = r.place ∙ ap {B = Option ℕ} some same;
          stands = r.stands;
          lower = rw (h, trees_from) r.lower;
          fails = r.fails;
        }

-- 3: the nodes below are made, and with no kinds is the next made too
module _ (f : Form) (x : Node) (ts : List Tree) (k : ℕ) (stands : get_elem? f.nodes k ≡ some x) where
  module _ (lower : trees_from f [] (take k f.nodes) ≡ accepted ts) where
    pub lower_made : NodesMade f k
    lower_made = nodes_made f (take k f.nodes) ts k lower (λ j y l h. lookup_take k f.nodes j l ∙ h)

    trees_below : length ts ≡ k
    trees_below =
        let inside = lookup_inside f.nodes k x stands in
        trees_length f [] (take k f.nodes) ts lower ∙ zero-add _ ∙ length-take-le k f.nodes (omega arith)

    pub next_not_made : tree_of f ts x ≡ none → NodesMade f (suc k) → ⊥
    next_not_made fails w =
        let (us, e, known) =
        nodes_trees f (take k f.nodes) (suc k) w (λ j y h. let l = take_inside k f.nodes j y h in (omega arith, sym (lookup_take k f.nodes j l) ∙ h)) in
        let same : us ≡ ts = accepted_same us ts (sym e ∙ lower) in
        let known-ts = subst (Known w.kind w.repeats) same known in
        let here : NodeMade f w.kind w.repeats (length ts) x =
        subst (λ (k : ℕ). NodeMade f w.kind w.repeats k x) (sym trees_below) (w.each k x (omega arith) stands) in
        let m = next f w.kind w.repeats ts known-ts x here in
        none-ne-some m.tree (sym fails ∙ m.is)

-- 4: a field that has no tree
fields_none : (ts : List Tree) (ks : List ℕ) → trees_at ts ks ≡ none → (i k : ℕ) × (get_elem? ks i ≡ some k) × (length ts ≤ k)
unfolding trees_at ◌>>?◌
fields_none ts [] e = absurd (none-ne-some [] (sym e))
fields_none ts (k ∷ ks) e = go (get_elem? ts k) refl (trees_at ts ks) refl (fields_none ts ks) e
  where
    Says : List ℕ → Type 0
    Says ks = (i k : ℕ) × (get_elem? ks i ≡ some k) × (length ts ≤ k)

    go :
        (o : Option Tree)
        → get_elem? ts k ≡ o
        → (us : Option (List Tree))
        → trees_at ts ks ≡ us
        → (trees_at ts ks ≡ none → Says ks)
        → (o >>? λ t. us >>? λ vs. some (t ∷ vs)) ≡ none
        → Says (k ∷ ks)
    go none h us g rest e = (0, k, refl, lookup_none ts k h)
    go (some t) h none g rest e = let (i, j, l, m) = rest g in (suc i, j, l, m)
    go (some t) h (some us) g rest e = absurd (none-ne-some (t ∷ us) (sym e))

refused_fault : {A : Type 0} (b : List ℕ) (m n : ℕ) (j k : Option ℕ) → ◌≡◌ {A = Checked A} (refused_at m j) (refused_at n k) → FormFault b m j → FormFault b n k
refused_fault b m n j k e h = rw (refused_number m n j k e, refused_place m n j k e) h

module _ (b : List ℕ) (counts : CountsMade b) (n : ℕ) (k : Option ℕ) where
  -- 4
  use_fault :
      All (NameMade (read_form b).area) (read_form b).names
      → (ts : List Tree)
      → trees_from (read_form b) [] (read_form b).nodes ≡ accepted ts
      → check_use (read_form b) ts ≡ refused_at n k
      → FormFault b n k
  unfolding check_use used_once
  use_fault names ts trees e = first (trees_at ts (read_form b).fields) refl
    where
      f : Form
      f = read_form b

      nodes : NodesMade f (node_count b)
      nodes = nodes_made f f.nodes ts (node_count b) trees (λ k x l h. h)

      second :
          (us : List Tree)
          → trees_at ts f.fields ≡ some us
          → (o : Option ℕ)
          → first_fault (used_once f) 0 (numbers (length f.nodes) 0) ≡ o
          → FormFault b n k
      second us h none g = absurd (refused_not n k _ (sym (rw (h, g, check_use) at e)))
      second us h (some i) g =
          let (l, m, once, lower) = first_number (used_once f) (length f.nodes) 0 i g in
          let count = node_count_lem b in
          refused_fault b 4 n (some i) k (rw (h, g, check_use) at e)
          (bad_use i counts names nodes (fields_made b ts us trees h) (omega arith) (λ z. eqb-false _ 1 once z)
          (λ j l. eqb-true (occurrences j (uses f)) 1 (lower j (omega arith) l)))

      first : (o : Option (List Tree)) → trees_at ts f.fields ≡ o → FormFault b n k
      first none h =
          let (i, j, at, l) = fields_none ts f.fields h in
          let long = trees_count b ts trees in
          refused_fault b 4 n none k (rw (h, check_use) at e) (bad_field i j counts names nodes at (omega arith))
      first (some us) h = second us h (first_fault (used_once f) 0 (numbers (length f.nodes) 0)) refl

  -- 2, then 3
  records_fault_lem : check_records (read_form b) ≡ refused_at n k → FormFault b n k
  unfolding check_records
  records_fault_lem e = first (first_fault (name_good (read_form b).area) 0 (read_form b).names) refl
    where
      f : Form
      f = read_form b

      second : first_fault (name_good f.area) 0 f.names ≡ none → (c : Checked (List Tree)) → trees_from f [] f.nodes ≡ c → FormFault b n k
      second h (accepted ts) g =
          use_fault (each_made f.area f.names (no_fault (name_good f.area) 0 f.names h)) ts g (rw (h, g, check_records) at e)
      second h (refused_at m j) g =
          let r = trees_refused f [] f.nodes m j g in
          let names = each_made f.area f.names (no_fault (name_good f.area) 0 f.names h) in
          let place : j ≡ some r.at = r.place ∙ ap {B = Option ℕ} some (zero-add r.at) in
          refused_fault b m n j k (rw (h, g, check_records) at e)
          (rw (r.number, place)
          (bad_node r.at counts names (lower_made f r.node r.trees r.at r.stands r.lower)
          (next_not_made f r.node r.trees r.at r.stands r.lower r.fails)))

      first : (o : Option ℕ) → first_fault (name_good f.area) 0 f.names ≡ o → FormFault b n k
      first (some i) h =
          let r = first_fault_lem (name_good f.area) 0 f.names i h in
          let place : i ≡ r.at = sym r.place ∙ zero-add r.at in
          refused_fault b 2 n (some i) k (rw (h, check_records) at e)
          (rw place
          (bad_name r.at r.element counts (each_made f.area (take r.at f.names) r.lower) r.stands
          (λ w. false≢true (sym r.fails ∙ name_good_lem f.area r.element w))))
      first none h = second h (trees_from f [] f.nodes) refl

-- a form that is refused is at fault as its number and place say
pub check_fault : (b : List ℕ) (n : ℕ) (k : Option ℕ) → check_form b ≡ refused_at n k → FormFault b n k
unfolding check_form
check_fault b n k = go (length_good b) refl
  where
    go : (t : Bool) → length_good b ≡ t → (if t then check_records (read_form b) else refused_at 1 none) ≡ refused_at n k → FormFault b n k
    go true h e = records_fault_lem b (length_counts b h) n k e
    go false h e = refused_fault b 1 n none k e (bad_counts (λ c. false≢true (sym h ∙ counts_length b c)))

fault_numbers : (b : List ℕ) (n : ℕ) (k : Option ℕ) → FormFault b n k → (1 ≤ n) × (n ≤ 4)
fault_numbers b n k (bad_counts c) = (omega arith, omega arith)
fault_numbers b n k (bad_name i m c a h d) = (omega arith, omega arith)
fault_numbers b n k (bad_node i c a l d) = (omega arith, omega arith)
fault_numbers b n k (bad_field i j c a l h m) = (omega arith, omega arith)
fault_numbers b n k (bad_use i c a l h m o d) = (omega arith, omega arith)

pub check_numbers : (b : List ℕ) (n : ℕ) (k : Option ℕ) → check_form b ≡ refused_at n k → (1 ≤ n) × (n ≤ 4)
check_numbers b n k e = fault_numbers b n k (check_fault b n k e)
