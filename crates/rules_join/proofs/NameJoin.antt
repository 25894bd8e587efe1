-- The names of two joined forms: each has the bytes that it had.
use mathlib.Core.Bool.{Bool, not, ◌&&◌}
use mathlib.Core.List.{List, [], ◌∷◌, map}
use mathlib.Core.Option
use mathlib.Core.Option.{Option, some, none}
use mathlib.Core.Path.{◌≡◌, refl, ap, ap₂, subst, ◌∙◌}
use Prim.Native.Nat.{ℕ, ◌+◌, ◌≤◌}
use native.Mathlib.Omega.{arith}
use lib.Dec.{leb}
use lib.ListN.{length, length-append}
use lib.Seq.{drop-append-add}
use borrow.Author.Tests.{le-leb, leb-true, ne_eqb}
use Rattle.std.specs.Prelude.{if◌then◌else◌}
use Rattle.rules.specs.Base.{null, all, concat_map, ◌>>?◌, slice}
use Rattle.rules.specs.Form.{Node, Name, Form, name_bytes, name_good, portable_name, portable}
use Rattle.rules.specs.Tree.{names_of, short_of, long_of, Named, named_by, named_of}
use Rattle.rules.specs.Value.{Kind}
use Rattle.rules.specs.Accept.{Accepted}
use Rattle.rules.specs.Demands.{All}
use Rattle.rules.proofs.Acceptance.{and-true, both, bind_some, bind_is, names_some, NameGood, All-take, All-drop, All-append}
use Rattle.rules.proofs.PortableLaws.{mark_joined}
use Rattle.rules_join.specs.Join.{Moves, moves_behind, move_name, move_p, move_q, move_node, join_by, join_forms}
use Rattle.rules_join.proofs.JoinLists.{null_map, all_map, concat_mapped, if_map, bind_map, part_first, leb_behind, slice_behind, slice_first, slice_map}

-- names of one area that have the same bytes in another
module _ (area other : List ℕ) where
  abbrev SameBytes : Name → Type 0
  SameBytes m = name_bytes other m ≡ name_bytes area m

  named_alike : (l : List Name) → All SameBytes l → named_by other l ≡ named_by area l
  unfolding named_by concat_map short_of long_of
  named_alike [] h = refl
  named_alike (m ∷ l) h =
      let r = named_alike l h.1 in
      let shorts : concat_map (short_of other) l ≡ concat_map (short_of area) l = ap (λ (n : Named). n.shorts) r in
      let longs : concat_map (long_of other) l ≡ concat_map (long_of area) l = ap (λ (n : Named). n.longs) r in
      rw (h.0, shorts, longs)

  portable_alike : (l : List Name) → All SameBytes l → all (portable_name other) l ≡ all (portable_name area) l
  unfolding all portable_name
  portable_alike [] h = refl
  portable_alike (m ∷ l) h = rw (h.0, portable_alike l h.1)

module _ (a b : Accepted) where
  abbrev moves : Moves
  moves = moves_behind a.form

  abbrev whole : Form
  whole = join_forms a b

  -- ---- the first's names
  bytes_first : (m : Name) → NameGood a.form.area m → SameBytes a.form.area whole.area m
  unfolding join_forms join_by name_bytes name_good
  bytes_first m g =
      let h = and-true (leb (m.offset + m.size) (length a.form.area)) _ g in
      part_first m.offset m.size a.form.area b.form.area (leb-true _ _ h.0)

  all_first : (l : List Name) → All (NameGood a.form.area) l → All (SameBytes a.form.area whole.area) l
  all_first [] h = tt
  all_first (m ∷ l) h = (bytes_first m h.0, all_first l h.1)

  good_first : (l : List Name) → All (NameGood a.form.area) l → All (NameGood whole.area) l
  unfolding join_forms join_by name_good
  good_first [] h = tt
  good_first (m ∷ l) h =
      let area = a.form.area in
      let (inside, type) = and-true (leb (m.offset + m.size) (length area)) _ h.0 in
      let more = length-append area b.form.area in
      let long : m.offset + m.size ≤ length whole.area = omega (arith, leb-true (m.offset + m.size) (length area) inside) in
      (both (le-leb _ _ long) (rw (bytes_first m h.0) type), good_first l h.1)

  -- a node's names
  names_first : (x : Node) (l : List Name) → names_of a.form x ≡ some l → names_of whole x ≡ some l
  unfolding names_of join_forms join_by
  names_first x l e =
      let names = a.form.names in
      let (s, h, g) = bind_some (slice x.p (x.p + x.q) names) _ e in
      bind_is (slice x.p (x.p + x.q) whole.names) _ (slice_first x.p x.q names (map (move_name moves) b.form.names) s h) ∙ g

  pub named_first :
      All (NameGood a.form.area) a.form.names
      → (x : Node) (l : List Name)
      → names_of a.form x ≡ some l
      → named_of whole x ≡ named_of a.form x
  unfolding named_of ◌>>?◌
  named_first g x l e =
      let good = NameGood a.form.area in
      let n = names_some a.form x l e in
      let some_Good = subst (All good) n.part (All-take good x.q _ (All-drop good x.p a.form.names g)) in
      rw (names_first x l e, e, named_alike a.form.area whole.area l (all_first l some_Good))

  -- ---- the second's names
  bytes_second : (m : Name) → name_bytes whole.area (move_name moves m) ≡ name_bytes b.form.area m
  unfolding join_forms join_by moves_behind move_name name_bytes
  bytes_second m = rw (drop-append-add a.form.area b.form.area m.offset)

  good_second : (m : Name) → name_good whole.area (move_name moves m) ≡ name_good b.form.area m
  unfolding name_good join_forms join_by moves_behind move_name
  good_second m =
      let area = a.form.area in
      let end : length area + m.offset + m.size ≡ length area + (m.offset + m.size) = omega arith in
      rw (bytes_second m, length-append area b.form.area, end, leb_behind (length area) (m.offset + m.size) (length b.form.area))

  all_second : (l : List Name) → All (NameGood b.form.area) l → All (NameGood whole.area) (map (move_name moves) l)
  all_second [] h = tt
  all_second (m ∷ l) h = (good_second m ∙ h.0, all_second l h.1)

  -- ---- all names
  pub names_joined :
      All (NameGood a.form.area) a.form.names
      → All (NameGood b.form.area) b.form.names
      → All (NameGood whole.area) whole.names
  unfolding join_forms join_by
  names_joined g h =
      All-append (NameGood whole.area) a.form.names (map (move_name moves) b.form.names)
      (good_first a.form.names g)
      (all_second b.form.names h)

  portable_second : (m : Name) → portable_name whole.area (move_name moves m) ≡ portable_name b.form.area m
  unfolding portable_name move_name
  portable_second m = rw (bytes_second m)

  pub portable_joined : All (NameGood a.form.area) a.form.names → portable whole ≡ (portable a.form && portable b.form)
  unfolding portable join_forms join_by
  portable_joined g =
      mark_joined whole.area a.form.names (map (move_name moves) b.form.names)
      ∙ ap₂ (λ (s t : Bool). s && t)
      (portable_alike a.form.area whole.area a.form.names (all_first a.form.names g))
      (all_map (move_name moves) (portable_name whole.area) (portable_name b.form.area) portable_second b.form.names)

  -- a flag's or an argument's names
  short_second : (m : Name) → short_of whole.area (move_name moves m) ≡ short_of b.form.area m
  unfolding short_of move_name
  short_second m = rw (bytes_second m)

  long_second : (m : Name) → long_of whole.area (move_name moves m) ≡ long_of b.form.area m
  unfolding long_of move_name
  long_second m = rw (bytes_second m)

  parts_second : (l : List Name) → named_by whole.area (map (move_name moves) l) ≡ named_by b.form.area l
  unfolding named_by
  parts_second l =
      rw (
        concat_mapped (move_name moves) (short_of whole.area) (short_of b.form.area) short_second l,
        concat_mapped (move_name moves) (long_of whole.area) (long_of b.form.area) long_second l,
      )

  -- one or more, all short or long
  named_good_lem : List Name → Option (List Name)
  named_good_lem l = if not (null l) && all (λ (m : Name). leb m.type 1) l then some l else none

  good_parts : (l : List Name) → named_good_lem (map (move_name moves) l) ≡ Option.map (map (move_name moves)) (named_good_lem l)
  unfolding named_good_lem move_name
  good_parts l =
      let short : Name → Bool = λ m. leb m.type 1 in
      rw (null_map (move_name moves) l, all_map (move_name moves) short short (λ m. refl) l)
      (if_map (map (move_name moves)) (not (null l) && all short l) (some l) none (λ e. refl) (λ e. refl))

  names_second : (x : Node) (k : Option Kind) → x.kind ≤ 2 → names_of whole (move_node moves k x) ≡ Option.map (map (move_name moves)) (names_of b.form x)
  unfolding names_of named_good_lem join_forms join_by moves_behind move_node move_p move_q
  names_second x k h =
      let first = a.form.names in
      let mv = move_name moves in
      let other : x.kind ≡ 9 → ⊥ = λ e. omega arith in
      rw (
        le-leb x.kind 2 h,
        ne_eqb x.kind 9 other,
        slice_behind first (map mv b.form.names) x.p x.q,
        slice_map mv x.p (x.p + x.q) b.form.names,
      )
      (bind_map (map mv) (map mv) named_good_lem named_good_lem (slice x.p (x.p + x.q) b.form.names) (λ l e. good_parts l))

  pub named_second : (x : Node) (k : Option Kind) → x.kind ≤ 2 → named_of whole (move_node moves k x) ≡ named_of b.form x
  unfolding named_of ◌>>?◌
  named_second x k h = rw (names_second x k h) (go (names_of b.form x))
    where
      go :
          (o : Option (List Name))
          → (Option.map (map (move_name moves)) o >>? λ l. some (named_by whole.area l)) ≡ (o >>? λ l. some (named_by b.form.area l))
      go none = refl
      go (some l) = rw (parts_second l)
