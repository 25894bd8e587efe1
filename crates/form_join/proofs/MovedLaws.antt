-- Numbers that move up: what stands at a number, and that it stays small.
use mathlib.Core.Bool.{Bool, true, false, ◌&&◌}
use mathlib.Core.List.{List, [], ◌∷◌, map}
use mathlib.Core.Logic.{⊎_elim, ◌⊎◌, inl, inr}
use mathlib.Core.Option.{Option, some, some-injective, none-ne-some}
use mathlib.Core.Path.{◌≡◌, refl, ap, ◌∙◌}
use Prim.Native.Nat.{ℕ, zero, suc, ◌+◌, ◌≤◌, ◌<◌}
use native.Mathlib.Nat.{zero-add}
use native.Mathlib.Omega.{arith}
use borrow.Author.Tests.{eq-eqb, ne_eqb, le-leb, lt-leb}
use lib.Dec.{leb, eqb}
use lib.ListN.{length, get_elem?, length-drop}
use Rattle.std.specs.Prelude.{if◌then◌else◌}
use Rattle.rules.specs.Value.{Base, yes_no, text, number, same_base, base_number, Kind, one, optional, list, list_of_optional, optional_list}
use Rattle.rules.specs.Form.{Node, Name, Form, node_count, name_count, area_length, area_at, read_form}
use Rattle.rules.specs.Tree.{Tree, kind_of, shape_of, inner_base, same_kind}
use Rattle.rules.specs.Accept.{Accepted, accepted, length_good, check_form}
use Rattle.rules.specs.Codes.{base_code, kind_code}
use Rattle.rules.specs.Sound.{Sound}
use Rattle.rules.specs.WellMade.{NameMade, FallbackMade, NodeMade, flag_row, argument_row, positional_row, optional_row, list_row, count_row, last_row, choice_row, fallback_row, guard_row}
use Rattle.rules.proofs.Acceptance.{lookup_inside, lookup_some, All-at, is_some_lem, accepted_form, accepted_trees, accepted_trees_sound}
use Rattle.rules.proofs.CommandLaws.{lookup_map}
use Rattle.rules.proofs.WellMadeLaws.{well_made}
use Rattle.rules_join.specs.Join.{Moves, moves_behind, move_name, is_text_kind, move_p, move_q, move_r, move_node, move_nodes}
use Rattle.form_names.specs.Names.{name_of}
use Rattle.form_names.specs.declared.Name as names
use Rattle.form_layout.specs.Layout.{node_of}
use Rattle.form_layout.specs.declared.Kind.{Kind as LaidKind}
use Rattle.form_layout.specs.declared.Kind.TheVariants.{Zero, Flag, Argument}
use Rattle.form_layout.specs.declared.Node as nodes
use Rattle.form_layout.specs.Kinds.{kind_number}
use Rattle.form_layout.proofs.Sizes.{sized, nodes_length, names_length}
use Rattle.form_join.specs.declared.Moves as declared
use Rattle.form_join.specs.Moved.{moves_of, SmallMoves, MovesPast, FormPasses, CanMoveNode, CanMoveName, CanMoveField, NodeWithin}
use Rattle.form_join.specs.Sizes.{moved_accepted}
use Rattle.form_join.specs.Moved.{nowhere, moved_fields, moved_names, moved_nodes, IsText, NodeThere, NameThere}

-- ---- an accepted form

pub good_eight : (b : List ℕ) → length_good b ≡ true → 8 ≤ length b
good_eight b g = (sized b g).counts.long

pub area_length_lem : (b : List ℕ) → length_good b ≡ true → length (read_form b).area ≡ area_length b
unfolding read_form
area_length_lem b g = omega (arith, (sized b g).whole, length-drop (area_at b) b)

pub moves_past : (b : List ℕ) (n m a : ℕ) → length_good b ≡ true → n ≡ node_count b → m ≡ name_count b → a ≡ area_length b → MovesPast b (record { nodes = n; names = m; area = a })
unfolding moves_behind
moves_past b n m a g en em ea =
    let counts = (sized b g).counts in
    record {
      same = rw (en, em, ea, nodes_length b, names_length b, area_length_lem b g);
      small = record { nodes = omega (arith, counts.nodes); names = omega (arith, counts.names); area = omega (arith, counts.area) };
    }

-- ---- kinds

-- kind 2 is a text, and no other
text_code : (κ : Kind) → eqb (kind_code κ) 2 ≡ is_text_kind (some κ)
unfolding kind_code base_code is_text_kind same_kind shape_of inner_base same_base base_number
text_code (one yes_no) = refl
text_code (one text) = refl
text_code (one number) = refl
text_code (optional yes_no) = refl
text_code (optional text) = refl
text_code (optional number) = refl
text_code (list yes_no) = refl
text_code (list text) = refl
text_code (list number) = refl
text_code (list_of_optional yes_no) = refl
text_code (list_of_optional text) = refl
text_code (list_of_optional number) = refl
text_code (optional_list yes_no) = refl
text_code (optional_list text) = refl
text_code (optional_list number) = refl

module _ (b : List ℕ) (k kind : ℕ) where
  pub other_kind : (kind ≡ 10 → ⊥) → (r : Bool) → r ≡ false → IsText b k kind r
  other_kind h r z a t e s = rw (z, ne_eqb kind 10 h)

  pub fallback_kind :
      kind ≡ 10
      → (n : ℕ)
      → ((a : Accepted) (t : Tree) (κ : Kind) → check_form b ≡ accepted a → get_elem? a.trees k ≡ some t → kind_of t ≡ some κ → n ≡ kind_code κ)
      → IsText b k kind (eqb n 2)
  fallback_kind h n code a t e s =
      let sound = All-at Sound a.trees k t (accepted_trees_sound b a e) s in
      let (κ, is) = is_some_lem (kind_of t) sound.kind in
      rw (eq-eqb kind 10 h, is, code a t κ e s is) (text_code κ)

-- ---- numbers that are moved

low : (k : LaidKind) → (k ≡ Zero) ⊎ ((k ≡ Flag) ⊎ (k ≡ Argument)) → kind_number k ≤ 2
low k (inl e) = omega (arith, ap kind_number e)
low k (inr (inl e)) = omega (arith, ap kind_number e)
low k (inr (inr e)) = omega (arith, ap kind_number e)

pub p_name : (x : nodes.Node) (d : declared.Moves) → (x.kind ≡ Zero) ⊎ ((x.kind ≡ Flag) ⊎ (x.kind ≡ Argument)) → d.names + x.p ≡ move_p (moves_of d) (node_of x)
unfolding move_p
p_name x d h = rw (le-leb (node_of x).kind 2 (low x.kind h))

pub p_words : (x : nodes.Node) (d : declared.Moves) → (node_of x).kind ≡ 3 → x.p ≡ move_p (moves_of d) (node_of x)
unfolding move_p
p_words x d e = rw (lt-leb (node_of x).kind 2 (omega arith), eq-eqb (node_of x).kind 3 e)

pub p_child :
    (x : nodes.Node) (d : declared.Moves)
    → ((node_of x).kind ≡ 0 → ⊥)
    → ((node_of x).kind ≡ 1 → ⊥)
    → ((node_of x).kind ≡ 2 → ⊥)
    → ((node_of x).kind ≡ 3 → ⊥)
    → d.nodes + x.p ≡ move_p (moves_of d) (node_of x)
unfolding move_p
p_child x d z f a e = rw (lt-leb (node_of x).kind 2 (omega arith), ne_eqb (node_of x).kind 3 e)

pub q_child : (x : nodes.Node) (d : declared.Moves) → (node_of x).kind ≡ 9 → d.nodes + x.q ≡ move_q (moves_of d) (node_of x)
unfolding move_q
q_child x d h = rw (eq-eqb (node_of x).kind 9 h)

pub q_other : (x : nodes.Node) (d : declared.Moves) → ((node_of x).kind ≡ 9 → ⊥) → x.q ≡ move_q (moves_of d) (node_of x)
unfolding move_q
q_other x d h = rw (ne_eqb (node_of x).kind 9 h)

-- ---- how large they are

picked : (c : Bool) (x y most : ℕ) → x ≤ most → y ≤ most → (if c then x else y) ≤ most
picked true x y most h g = h
picked false x y most h g = g

fallback_small : (f : Form) (x : Node) (β : Base) → length f.names ≤ 128 → FallbackMade f x β → x.r ≤ 128
fallback_small f x yes_no l m = omega (arith, m.1.0)
fallback_small f x text l m = omega (arith, lookup_inside f.names x.r m.0.0 m.0.1)
fallback_small f x number l m = omega (arith, m.0)

module _ (f : Form) (kind : ℕ → Kind) (repeats : ℕ → Bool) (k : ℕ) (x : Node) (few : k < 64) (l : length f.names ≤ 128) where
  made_small : NodeMade f kind repeats k x → NodeWithin 128 x
  made_small (flag_row i n r u e s) = record { kind = omega arith; p = omega (arith, n.inside); q = omega (arith, n.inside); r = omega arith }
  made_small (argument_row i n u r s) = record {
    kind = omega arith;
    p = omega (arith, n.inside);
    q = omega (arith, n.inside);
    r = ⊎_elim (λ h. omega (arith, h.0)) (λ h. omega (arith, h.1)) r;
  }
  made_small (positional_row i p u r s) = record {
    kind = omega arith;
    p = omega arith;
    q = omega (arith, u.0);
    r = ⊎_elim (λ h. omega (arith, h.0)) (λ h. omega (arith, h.0)) r;
  }
  made_small (optional_row i p r u e s) = record { kind = omega arith; p = omega arith; q = omega (arith, u.0); r = omega arith }
  made_small (list_row i p r u e s z) = record { kind = omega arith; p = omega arith; q = omega (arith, u.0); r = omega arith }
  made_small (count_row i p u e s z) = record { kind = omega arith; p = omega arith; q = omega (arith, u.0); r = omega (arith, u.1.0) }
  made_small (last_row i p u e s z) = record { kind = omega arith; p = omega arith; q = omega (arith, u.0); r = omega (arith, u.1.0) }
  made_small (choice_row i p q u e s) = record { kind = omega arith; p = omega arith; q = omega arith; r = omega (arith, u.0) }
  made_small (fallback_row β i p q m e g s) = record { kind = omega arith; p = omega arith; q = omega arith; r = fallback_small f x β l m }
  made_small (guard_row i p u h e g s) = record { kind = omega arith; p = omega arith; q = omega (arith, u.0); r = omega (arith, u.1.0) }

-- ---- nodes

nodes_at_lem :
    (d : Moves) (ts : List Tree) (xs : List Node) (k : ℕ) (t : Tree) (x : Node)
    → get_elem? ts k ≡ some t
    → get_elem? xs k ≡ some x
    → get_elem? (move_nodes d ts xs) k ≡ some (move_node d (kind_of t) x)
unfolding move_nodes
nodes_at_lem d [] xs k t x p q = absurd (none-ne-some t p)
nodes_at_lem d (u ∷ ts) [] k t x p q = absurd (none-ne-some x q)
nodes_at_lem d (u ∷ ts) (y ∷ xs) zero t x p q = rw (some-injective u t p, some-injective y x q)
nodes_at_lem d (u ∷ ts) (y ∷ xs) (suc k) t x p q = nodes_at_lem d ts xs k t x p q

module _ (d : declared.Moves) (b : List ℕ) (k : ℕ) (has : CanMoveNode b k) (s : SmallMoves d) (x : nodes.Node) (ex : get_elem? (read_form b).nodes k ≡ some (node_of x)) where
  pub node_within : NodeWithin 128 (node_of x)
  node_within =
      let made = well_made b has.passes.form has.passes.accepts in
      let counts = made.counts in
      let each = made.node_records in
      made_small (read_form b) each.kind each.repeats k (node_of x) (omega (arith, has.below, counts.nodes)) (omega (arith, names_length b, counts.names))
      (each.each k (node_of x) has.below ex)

  pub r_fits : d.names + x.r < 18446744073709551616
  r_fits = omega (arith, node_within.r, s.names)

  module _ (p q : ℕ) (ep : p ≡ move_p (moves_of d) (node_of x)) (eq : q ≡ move_q (moves_of d) (node_of x)) (t : Bool) (et : IsText b k (node_of x).kind t) where
    p_within : p ≤ 256
    unfolding move_p
    p_within =
        let small = node_within.p in
        let names : d.names + x.p ≤ 256 = omega (arith, s.names) in
        let nodes : d.nodes + x.p ≤ 256 = omega (arith, s.nodes) in
        rw ep (picked (leb (node_of x).kind 2) _ _ 256 names (picked (eqb (node_of x).kind 3) _ _ 256 (omega arith) nodes))

    q_within : q ≤ 256
    unfolding move_q
    q_within =
        let small = node_within.q in
        let nodes : d.nodes + x.q ≤ 256 = omega (arith, s.nodes) in
        rw eq (picked (eqb (node_of x).kind 9) _ _ 256 nodes (omega arith))

    moved_to :
        (r : ℕ)
        → r ≤ 256
        → r ≡ (if t then d.names + x.r else x.r)
        → NodeThere (moves_of d) b k (record { kind = x.kind; p = p; q = q; r = r; lo = x.lo; hi = x.hi })
    unfolding move_node move_r
    moved_to r h er =
        let a = has.passes.form in
        let e = has.passes.accepts in
        let form = accepted_form b a e in
        let long : k < length a.trees = rw (accepted_trees b a e, form) (omega (arith, nodes_length b, has.below)) in
        let (u, eu) = lookup_some a.trees k long in
        let there : get_elem? a.form.nodes k ≡ some (node_of x) = rw form ex in
        record {
          same = rw (moved_accepted (moves_of d) b a e) (nodes_at_lem (moves_of d) a.trees a.form.nodes k u (node_of x) eu there ∙ rw (← ep, ← eq, er, et a u e eu));
          within = record { kind = omega (arith, node_within.kind); p = p_within; q = q_within; r = h };
        }

    pub text_there :
        t ≡ true
        → NodeThere (moves_of d) b k (record { kind = x.kind; p = p; q = q; r = d.names + x.r; lo = x.lo; hi = x.hi })
    text_there z = moved_to (d.names + x.r) (omega (arith, node_within.r, s.names)) (rw z)

    pub other_there :
        t ≡ false
        → NodeThere (moves_of d) b k (record { kind = x.kind; p = p; q = q; r = x.r; lo = x.lo; hi = x.hi })
    other_there z = moved_to x.r (omega (arith, node_within.r)) (rw z)

-- ---- names and fields

module _ (d : declared.Moves) (b : List ℕ) (k : ℕ) where
  module _ (has : CanMoveName b k) (s : SmallMoves d) (x : names.Name) (ex : get_elem? (read_form b).names k ≡ some (name_of x)) where
    name_inside : x.offset + x.size ≤ 4096
    name_inside =
        let made = well_made b has.passes.form has.passes.accepts in
        let here = All-at (NameMade (read_form b).area) (read_form b).names k (name_of x) made.name_records ex in
        omega (arith, here.inside, area_length_lem b has.passes.good, made.counts.area)

    pub offset_fits : d.area + x.offset < 18446744073709551616
    offset_fits = omega (arith, name_inside, s.area)

    pub name_there : NameThere (moves_of d) b k (record { kind = x.kind; offset = d.area + x.offset; size = x.size })
    unfolding moved_names move_name
    name_there = record {
      same = lookup_map (move_name (moves_of d)) (read_form b).names k (name_of x) ex;
      within = record { offset = omega (arith, name_inside, s.area); size = omega (arith, name_inside) };
    }

  module _ (has : CanMoveField b k) (s : SmallMoves d) (x : ℕ) (ex : get_elem? (read_form b).fields k ≡ some x) where
    field_small : d.nodes + x ≤ 128
    field_small =
        let made = well_made b has.passes.form has.passes.accepts in
        let here = All-at (λ (n : ℕ). n < node_count b) (read_form b).fields k x made.field_numbers ex in
        omega (arith, here, made.counts.nodes, s.nodes)

    pub field_fits : d.nodes + x < 18446744073709551616
    field_fits = omega (arith, field_small)

    pub field_narrow : d.nodes + x < 4294967296
    field_narrow = omega (arith, field_small)

    pub field_there : get_elem? (moved_fields (moves_of d) b) k ≡ some (d.nodes + x)
    unfolding moved_fields
    field_there = lookup_map (λ (n : ℕ). d.nodes + n) (read_form b).fields k x ex

-- ---- what moves by nothing stays

either : (c : Bool) (x y z : ℕ) → x ≡ z → y ≡ z → (if c then x else y) ≡ z
either true x y z p q = p
either false x y z p q = q

node_stays : (k : Option Kind) (x : Node) → move_node nowhere k x ≡ x
unfolding move_node move_p move_q move_r
node_stays k x = λ i. record {
  kind = x.kind;
  p = either (leb x.kind 2) _ _ x.p (zero-add x.p) (either (eqb x.kind 3) _ _ x.p refl (zero-add x.p)) i;
  q = either (eqb x.kind 9) _ _ x.q (zero-add x.q) refl i;
  r = either (eqb x.kind 10 && is_text_kind k) _ _ x.r (zero-add x.r) refl i;
  lo = x.lo;
  hi = x.hi;
}

nodes_stay : (ts : List Tree) (xs : List Node) → length ts ≡ length xs → move_nodes nowhere ts xs ≡ xs
unfolding move_nodes
nodes_stay [] [] e = refl
nodes_stay [] (x ∷ xs) e = absurd (omega arith)
nodes_stay (t ∷ ts) [] e = absurd (omega arith)
nodes_stay (t ∷ ts) (x ∷ xs) e = rw (node_stays (kind_of t) x, nodes_stay ts xs (omega arith))

fields_stay : (l : List ℕ) → map (λ k. 0 + k) l ≡ l
fields_stay [] = refl
fields_stay (k ∷ l) = rw (zero-add k, fields_stay l)

name_stays : (x : Name) → move_name nowhere x ≡ x
unfolding move_name
name_stays x = λ i. record { type = x.type; offset = zero-add x.offset i; size = x.size }

names_stay : (l : List Name) → map (move_name nowhere) l ≡ l
names_stay [] = refl
names_stay (x ∷ l) = rw (name_stays x, names_stay l)

module _ (b : List ℕ) where
  pub nodes_same : FormPasses b → moved_nodes nowhere b ≡ (read_form b).nodes
  nodes_same p =
      let a = p.form in
      let e = p.accepts in
      moved_accepted nowhere b a e
      ∙ nodes_stay a.trees a.form.nodes (accepted_trees b a e)
      ∙ ap (λ (f : Form). f.nodes) (accepted_form b a e)

  pub fields_same : moved_fields nowhere b ≡ (read_form b).fields
  unfolding moved_fields
  fields_same = fields_stay (read_form b).fields

  pub names_same : moved_names nowhere b ≡ (read_form b).names
  unfolding moved_names
  names_same = names_stay (read_form b).names
