-- Laws of item records: what the rules read from one, by the kind that the code finds.
use mathlib.Core.Path.{◌≡◌, refl, sym, ap, ◌∙◌}
use mathlib.Core.Bool.{Bool, true, false, not, ◌&&◌, ◌||◌}
use mathlib.Core.List.{List, [], ◌∷◌}
use mathlib.Core.Logic.{inl, ⊎_elim}
use mathlib.Core.Option.{Option, some}
use Prim.Native.Nat.{ℕ, ◌+◌, ◌-◌, ◌*◌, ◌≤◌, ◌<◌}
use native.Mathlib.Nat.{add-zero}
use native.Mathlib.Omega.{arith}
use lib.Dec.{eqb, lit<}
use lib.ListN.{length, get_or, take, drop, length-drop}
use lib.Seq.{get_or-take, get_or-drop, drop-drop}
use borrow.Author.Tests.{leb-true, eqb-true}
use types.Run.{OneOf}
use denote.Enum.Declared.{tag_of}
use Rattle.std.specs.Prelude.{if◌then◌else◌}
use Rattle.wire.specs.Wire.{area_start, area as wire_area}
use Rattle.wire.specs.Laws.{good_table, start_most}
use Rattle.rules.specs.Base.{contains, ◌>>?◌}
use Rattle.rules.specs.Sheet.{argument_count, sheet_area}
use Rattle.rules.specs.Take.{contains_name, matches_arg, is_operand}
use Rattle.rules.specs.Calls.{part_in, short_from, long_from, word_from, item_from}
use Rattle.rules.specs.Split as rules
use Rattle.rules.proofs.Acceptance.{if_some, bind_some}
use Rattle.rules.proofs.Formats.{good_sheet}
use Rattle.split_arg.specs.declared.Part.{Part}
use Rattle.split_arg.specs.declared.Item.{Item}
use Rattle.split_arg.specs.declared.Item.TheVariants.{Short, Long, ArgWord, Word, PosWord}
use Rattle.split_arg.specs.contracts.Item as T
use Rattle.split_arg.specs.Items.{record_at, item_of, in_area}
use Rattle.form_codes.specs.Codes.{named_at}
use Rattle.take_search.specs.Items.{part_bytes, HasPart, operand_kind}
use Rattle.take_search.specs.Search.{HasNames, HasItem}
use Rattle.form_codes.proofs.NameCodes.{shorts_table}

-- ---- the item that the code reads is the one that the rules read

choose : (area : List ℕ) (x : rules.Item) (t : Bool) (o u : Option rules.Item) (y z : Item)
    → (o ≡ some x → in_area area y ≡ some x) → (u ≡ some x → in_area area z ≡ some x)
    → (if t then o else u) ≡ some x → in_area area (if t then y else z) ≡ some x
choose area x true o u y z f g e = f e
choose area x false o u y z f g e = g e

pub item_words_lem : (area r : List ℕ) (x : rules.Item) → item_from area r ≡ some x → in_area area (item_of r) ≡ some x
unfolding item_from item_of short_from long_from word_from
item_words_lem area r x e =
    choose area x (eqb (get_or r 0 0) 1) _ _ _ _ (λ h. (if_some _ _ h).1)
    (choose area x (eqb (get_or r 0 0) 2) _ _ _ _ (λ h. (if_some _ _ h).1)
    (choose area x (eqb (get_or r 0 0) 3) _ _ _ _ (λ h. (if_some _ _ h).1)
    (choose area x (eqb (get_or r 0 0) 4) _ _ _ _ (λ h. (if_some _ _ h).1)
    (λ h. (if_some _ _ (if_some (eqb (get_or r 0 0) 5) _ h).1).1)))) e

-- a part lies in the area
pub part_inside : (area : List ℕ) (p : Part) (t : List ℕ) → part_in area p.offset p.length ≡ some t
    → (p.offset + p.length ≤ length area) × (t ≡ part_bytes area p)
unfolding part_in part_bytes
part_inside area p t e =
    let h = if_some _ _ e in
    (leb-true (p.offset + p.length) (length area) h.0, let q = h.1 in cc)

module _ (area r : List ℕ) (x : rules.Item) (e : item_from area r ≡ some x) (item : Item) (q : item ≡ item_of r) where
  read : (y : Item) → item ≡ y → in_area area y ≡ some x
  read y h = rw (← h, q) (item_words_lem area r x e)

  pub is_short_lem : (c : ℕ) (own : Bool) (t : Part) → item ≡ Short c own t
      → (x ≡ rules.Short c own (part_bytes area t)) × (t.offset + t.length ≤ length area)
  is_short_lem c own t h =
      let f = bind_some _ _ (read (Short c own t) h) in
      let p = part_inside area t f.0 f.1 in
      let w : f.0 ≡ part_bytes area t = p.1 in
      let g = f.2 in
      (cc, p.0)

  pub is_long_lem : (n : Part) (own : Bool) (t : Part) → item ≡ Long n own t
      → (x ≡ rules.Long (part_bytes area n) own (part_bytes area t)) × ((n.offset + n.length ≤ length area) × (t.offset + t.length ≤ length area))
  is_long_lem n own t h =
      let f = bind_some _ _ (read (Long n own t) h) in
      let g = bind_some _ _ f.2 in
      let p = part_inside area n f.0 f.1 in
      let o = part_inside area t g.0 g.1 in
      let w : f.0 ≡ part_bytes area n = p.1 in
      let v : g.0 ≡ part_bytes area t = o.1 in
      let k = g.2 in
      (cc, (p.0, o.0))

  pub is_arg_word_lem : (t : Part) → item ≡ ArgWord t → (x ≡ rules.ArgWord (part_bytes area t)) × (t.offset + t.length ≤ length area)
  is_arg_word_lem t h =
      let f = bind_some _ _ (read (ArgWord t) h) in
      let p = part_inside area t f.0 f.1 in
      let w : f.0 ≡ part_bytes area t = p.1 in
      let g = f.2 in
      (cc, p.0)

  pub is_word : (t : Part) → item ≡ Word t → (x ≡ rules.Word (part_bytes area t)) × (t.offset + t.length ≤ length area)
  is_word t h =
      let f = bind_some _ _ (read (Word t) h) in
      let p = part_inside area t f.0 f.1 in
      let w : f.0 ≡ part_bytes area t = p.1 in
      let g = f.2 in
      (cc, p.0)

  pub is_pos_word_lem : (t : Part) → item ≡ PosWord t → (x ≡ rules.PosWord (part_bytes area t)) × (t.offset + t.length ≤ length area)
  is_pos_word_lem t h =
      let f = bind_some _ _ (read (PosWord t) h) in
      let p = part_inside area t f.0 f.1 in
      let w : f.0 ≡ part_bytes area t = p.1 in
      let g = f.2 in
      (cc, p.0)

-- ---- `matches`

and_no : (a b : Bool) → b ≡ false → false ≡ (a && b)
and_no true b e = sym e
and_no false b e = refl

and_yes : (a b : Bool) → b ≡ true → a ≡ (a && b)
and_yes true b e = sym e
and_yes false b e = refl

module _ (b codes s words : List ℕ) (i first count : ℕ) (adjacent : Bool) (item : Item) (q : item ≡ item_of (record_at words i)) where
  abbrev Matched : Bool → Type 0
  Matched r = (x : rules.Item) → item_from (sheet_area s) (record_at words i) ≡ some x → r ≡ matches_arg (named_at b first count) adjacent x

  module _ (own : Bool) (t : Part) (f : Bool) (ef : f ≡ (not adjacent || own)) where
    module _ (c : ℕ) (h : item ≡ Short c own t) where
      pub short_apart : f ≡ false → Matched f
      unfolding matches_arg
      short_apart z x e = z ∙ rw (is_short_lem _ _ x e item q c own t h).0 (and_no (contains (named_at b first count).shorts c) _ (sym ef ∙ z))

      pub short_here : f ≡ true → HasNames b codes first count → (r : Bool) → r ≡ contains (take count (drop first codes)) (c + 1) → Matched r
      unfolding matches_arg
      short_here z n r w x e =
          rw ((is_short_lem _ _ x e item q c own t h).0, ← and_yes (contains (named_at b first count).shorts c) _ (sym ef ∙ z))
          (w ∙ sym (shorts_table b codes first count c n.coded n.inside))

    module _ (n : Part) (h : item ≡ Long n own t) where
      pub long_apart : f ≡ false → Matched f
      unfolding matches_arg
      long_apart z x e = z ∙ rw (is_long_lem _ _ x e item q n own t h).0 (and_no (contains_name (named_at b first count).longs (part_bytes (sheet_area s) n)) _ (sym ef ∙ z))

      pub long_here : f ≡ true → (y : List ℕ) → y ≡ part_bytes (sheet_area s) n → (r : Bool) → r ≡ contains_name (named_at b first count).longs y → Matched r
      unfolding matches_arg
      long_here z y v r w x e =
          rw ((is_long_lem _ _ x e item q n own t h).0, ← and_yes (contains_name (named_at b first count).longs (part_bytes (sheet_area s) n)) _ (sym ef ∙ z), ← v) w

  -- by the tags that are left
  pub other_not : OneOf (2 ∷ 3 ∷ 4 ∷ []) (tag_of T.the_type item) → Matched false
  unfolding matches_arg
  other_not k = go item refl k
    where
      go : (y : Item) → item ≡ y → OneOf (2 ∷ 3 ∷ 4 ∷ []) (tag_of T.the_type y) → Matched false
      go (Short c a t) h k = absurd (⊎_elim (λ (e : ◌≡◌ {A = ℕ} 0 2). omega arith) (⊎_elim (λ (e : ◌≡◌ {A = ℕ} 0 3). omega arith) (λ (e : ◌≡◌ {A = ℕ} 0 4). omega arith)) k)
      go (Long n a t) h k = absurd (⊎_elim (λ (e : ◌≡◌ {A = ℕ} 1 2). omega arith) (⊎_elim (λ (e : ◌≡◌ {A = ℕ} 1 3). omega arith) (λ (e : ◌≡◌ {A = ℕ} 1 4). omega arith)) k)
      go (ArgWord t) h k = λ x e. rw (is_arg_word_lem _ _ x e item q t h).0
      go (Word t) h k = λ x e. rw (is_word _ _ x e item q t h).0
      go (PosWord t) h k = λ x e. rw (is_pos_word_lem _ _ x e item q t h).0

-- the name of a Long is a part of the area
pub long_part : (s words : List ℕ) (i : ℕ) → HasItem s words i → (item : Item) → item ≡ item_of (record_at words i)
    → (n : Part) (own : Bool) (t : Part) → item ≡ Long n own t → HasPart s n
long_part s words i g item q n own t h =
    record { made = g.made; inside = (is_long_lem (sheet_area s) (record_at words i) g.item g.here item q n own t h).1.0 }

-- ---- the parts of a sheet

module _ (s : List ℕ) (p : Part) (g : HasPart s p) (n : ℕ) (en : n ≡ argument_count s) where
  pub start_small : area_start 2 n < 18446744073709551616
  start_small = omega (arith, start_most 2 n (inl refl), (good_sheet s g.made).few)

  module _ (a : ℕ) (ea : a ≡ area_start 2 n) where
    pub part_fits : a + p.offset + p.length ≤ length s
    unfolding sheet_area wire_area
    part_fits =
        let w : n ≡ argument_count s = en in
        let k : area_start 2 (argument_count s) ≡ a = rw (← w) (sym ea) in
        omega (arith, g.inside, length-drop (area_start 2 (argument_count s)) s, (good_table 2 (argument_count s) s (good_sheet s g.made).table).long)

    pub part_bytes_are : take (a + p.offset + p.length - (a + p.offset)) (drop (a + p.offset) s) ≡ part_bytes (sheet_area s) p
    unfolding part_bytes sheet_area wire_area
    part_bytes_are =
        let z : a + p.offset + p.length - (a + p.offset) ≡ p.length = omega arith in
        rw (z, drop-drop p.offset (area_start 2 (argument_count s)) s, ea, en)

-- ---- operands

kind_choose : (x : rules.Item) (k j : ℕ) (o u : Option rules.Item)
    → (k ≡ j → o ≡ some x → operand_kind k ≡ is_operand x) → (eqb k j ≡ false → u ≡ some x → operand_kind k ≡ is_operand x)
    → (if eqb k j then o else u) ≡ some x → operand_kind k ≡ is_operand x
kind_choose x k j o u f g e = go (eqb k j) refl e
  where
    go : (t : Bool) → eqb k j ≡ t → (if t then o else u) ≡ some x → operand_kind k ≡ is_operand x
    go true d e = f (eqb-true k j d) e
    go false d e = g d e

-- an item made of a text
made_of : (make : List ℕ → rules.Item) (o : Option (List ℕ)) (x : rules.Item) (v : Bool) → ((t : List ℕ) → is_operand (make t) ≡ v)
    → (o >>? λ t. some (make t)) ≡ some x → v ≡ is_operand x
made_of make o x v h e =
    let f = bind_some o _ e in
    let g : some (make f.0) ≡ some x = f.2 in
    let w : make f.0 ≡ x = cc in
    rw (← w) (sym (h f.0))

-- the kind of a record says whether its item is an operand
operand_kind_lem : (area r : List ℕ) (x : rules.Item) → item_from area r ≡ some x → operand_kind (get_or r 0 0) ≡ is_operand x
unfolding item_from short_from long_from word_from operand_kind is_operand
operand_kind_lem area r x e =
    kind_choose x (get_or r 0 0) 1 _ _ (λ k h. rw k (made_of (rules.Short (get_or r 2 0) (eqb (get_or r 1 0) 1)) _ x false (λ t. refl) (if_some _ _ h).1))
    (λ _. kind_choose x (get_or r 0 0) 2 _ _ (λ k h. let f = bind_some _ _ (if_some _ _ h).1 in rw k (made_of (rules.Long f.0 (eqb (get_or r 1 0) 1)) _ x false (λ t. refl) f.2))
    (λ _. kind_choose x (get_or r 0 0) 3 _ _ (λ k h. rw k (made_of rules.ArgWord _ x false (λ t. refl) (if_some _ _ h).1))
    (λ _. kind_choose x (get_or r 0 0) 4 _ _ (λ k h. rw k (made_of rules.Word _ x true (λ t. refl) (if_some _ _ h).1))
    (λ _. kind_choose x (get_or r 0 0) 5 _ _ (λ k h. rw k (made_of rules.PosWord _ x true (λ t. refl) (if_some _ _ h).1))
    (λ _ h. let z : ◌≡◌ {A = ℕ} 0 1 = cc in absurd (omega arith)))))) e

pub operand_said : (area words : List ℕ) (i : ℕ) (r : Bool) → r ≡ operand_kind (get_or words (7 * i) 0)
    → (x : rules.Item) → item_from area (record_at words i) ≡ some x → r ≡ is_operand x
operand_said area words i r e x h =
    let z : get_or (record_at words i) 0 0 ≡ get_or words (7 * i) 0 =
    get_or-take 7 (drop (7 * i) words) 0 0 (lit< tt) ∙ get_or-drop (7 * i) words 0 0 ∙ ap (λ (k : ℕ). get_or words k 0) (add-zero (7 * i)) in
    e ∙ sym (ap operand_kind z) ∙ operand_kind_lem area (record_at words i) x h
