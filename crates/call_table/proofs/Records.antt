-- Laws of records: which are items, which are trimmed, and the loops over them.
use mathlib.Core.Path.{◌≡◌, refl, sym, ap, ◌∙◌}
use mathlib.Core.Bool.{Bool, true, false, not, ◌&&◌}
use mathlib.Core.List.{List, [], ◌∷◌}
use mathlib.Core.Logic.{⊎_elim}
use mathlib.Core.Option.{Option, some, none}
use Prim.Native.Nat.{ℕ, zero, suc, ◌+◌, ◌-◌, ◌*◌, ◌/◌, ◌≤◌, ◌<◌}
use native.Mathlib.Nat.{eq-or-lt_of_le, sub-zero}
use native.Mathlib.Numerals.{add-one}
use native.Mathlib.Omega.{arith}
use lib.Dec.{leb, eqb}
use lib.ListN.{length, get_or, take, drop, length-drop}
use lib.Seq.{length-take-le, take-length, drop-cons, drop-drop}
use borrow.Author.Tests.{ne_eqb, lt-leb, le-leb, not-true, not-false}
use Rattle.std.specs.Prelude.{if◌then◌else◌}
use Rattle.rules.specs.Base.{all, is_some, ◌>>?◌}
use Rattle.rules.specs.Tree.{zeros}
use Rattle.rules.specs.Split.{Item, Short, Long, ArgWord, PosWord}
use Rattle.rules.specs.Split as rules
use Rattle.rules.specs.Calls.{part_in, read_record, short_from, long_from, word_from, item_from, items_from, records_in, trimmed}
use Rattle.split_arg.specs.Items.{record_at}
use Rattle.call_table.specs.Given.{Trims}

-- ---- the words of a record

pub record_part_lem : (l : List ℕ) (i : ℕ) → take (7 * i + 7 - 7 * i) (drop (7 * i) l) ≡ record_at l i
record_part_lem l i = let z : 7 * i + 7 - 7 * i ≡ 7 = omega arith in rw z

pub tail_part : (l : List ℕ) (i : ℕ) → take (length l - i) (drop i l) ≡ drop i l
tail_part l i = ap (λ (n : ℕ). take n (drop i l)) (sym (length-drop i l)) ∙ take-length (drop i l)

pub record_long : (l : List ℕ) (i : ℕ) → 7 * i + 7 ≤ length l → length (record_at l i) ≡ 7
record_long l i h = length-take-le 7 (drop (7 * i) l) (omega (arith, length-drop (7 * i) l))

module _ (r : List ℕ) (h : length r ≡ 7) where
  pub words_name : take 2 (drop 3 r) ≡ get_or r 3 0 ∷ get_or r 4 0 ∷ []
  words_name = rw (drop-cons r 3 0 (omega arith), drop-cons r 4 0 (omega arith))

  pub words_unused : take 4 (drop 1 r) ≡ get_or r 1 0 ∷ get_or r 2 0 ∷ get_or r 3 0 ∷ get_or r 4 0 ∷ []
  words_unused = rw (drop-cons r 1 0 (omega arith), drop-cons r 2 0 (omega arith), drop-cons r 3 0 (omega arith), drop-cons r 4 0 (omega arith))

-- ---- tests

pub above : (a : ℕ) (b : Bool) → 1 < a → leb a 1 ≡ (leb a 1 && b)
above a b h = rw (lt-leb a 1 h)

pub within : (a : ℕ) (b c : Bool) → a ≤ 1 → c ≡ b → c ≡ (leb a 1 && b)
within a b c h e = rw (le-leb a 1 h) e

and_nothing : (a : Bool) → false ≡ (a && false)
and_nothing true = refl
and_nothing false = refl

and-true : (a : Bool) → (a && true) ≡ a
and-true true = refl
and-true false = refl

module _ (a b : ℕ) (c : Bool) where
  pub long_above : 1 < a → false ≡ (leb a 1 && zeros (b ∷ []) && c)
  long_above h = rw (lt-leb a 1 h)

  pub long_used : (b ≡ 0 → ⊥) → false ≡ (leb a 1 && zeros (b ∷ []) && c)
  unfolding zeros all
  long_used h = rw (ne_eqb 0 b (λ e. h (sym e)), ← and_nothing (leb a 1))

  pub long_within : a ≤ 1 → b ≡ 0 → (d : Bool) → d ≡ c → d ≡ (leb a 1 && zeros (b ∷ []) && c)
  unfolding zeros all
  long_within h e d k = rw (le-leb a 1 h, e) k

-- ---- which records are items

pub some_if : (b : Bool) (o : Option Item) → is_some (if b then o else none) ≡ (b && is_some o)
unfolding is_some
some_if true o = refl
some_if false o = refl

pub some_part : (bytes : List ℕ) (o s : ℕ) (f : List ℕ → Item) → is_some (part_in bytes o s >>? λ t. some (f t)) ≡ leb (o + s) (length bytes)
unfolding part_in is_some ◌>>?◌
some_part bytes o s f = go (leb (o + s) (length bytes))
  where
    go : (b : Bool) → is_some ((if b then some (take s (drop o bytes)) else none) >>? λ t. some (f t)) ≡ b
    go true = refl
    go false = refl

some_parts : (bytes : List ℕ) (o s : ℕ) (g : List ℕ → Option Item) (b : Bool) → ((t : List ℕ) → is_some (g t) ≡ b)
    → is_some (part_in bytes o s >>? g) ≡ (leb (o + s) (length bytes) && b)
unfolding part_in is_some ◌>>?◌
some_parts bytes o s g b h = go (leb (o + s) (length bytes))
  where
    go : (c : Bool) → is_some ((if c then some (take s (drop o bytes)) else none) >>? g) ≡ (c && b)
    go true = h (take s (drop o bytes))
    go false = refl

module _ (bytes r : List ℕ) where
  abbrev text : Bool
  text = leb (get_or r 5 0 + get_or r 6 0) (length bytes)

  short_some : is_some (short_from bytes (read_record r)) ≡ ((leb (get_or r 1 0) 1 && zeros (get_or r 3 0 ∷ get_or r 4 0 ∷ [])) && text)
  unfolding short_from
  short_some = some_if (leb (get_or r 1 0) 1 && zeros (get_or r 3 0 ∷ get_or r 4 0 ∷ [])) _ ∙ rw (some_part bytes (get_or r 5 0) (get_or r 6 0) (Short (get_or r 2 0) (eqb (get_or r 1 0) 1)))

  long_some : is_some (long_from bytes (read_record r)) ≡ ((leb (get_or r 1 0) 1 && zeros (get_or r 2 0 ∷ [])) && (leb (get_or r 3 0 + get_or r 4 0) (length bytes) && text))
  unfolding long_from
  long_some = some_if (leb (get_or r 1 0) 1 && zeros (get_or r 2 0 ∷ [])) _
      ∙ rw (some_parts bytes (get_or r 3 0) (get_or r 4 0) _ text (λ n. some_part bytes (get_or r 5 0) (get_or r 6 0) (Long n (eqb (get_or r 1 0) 1))))

  word_some : (make : List ℕ → Item) → is_some (word_from make bytes (read_record r)) ≡ (zeros (get_or r 1 0 ∷ get_or r 2 0 ∷ get_or r 3 0 ∷ get_or r 4 0 ∷ []) && text)
  unfolding word_from
  word_some make =
      some_if (zeros (get_or r 1 0 ∷ get_or r 2 0 ∷ get_or r 3 0 ∷ get_or r 4 0 ∷ [])) _ ∙ rw (some_part bytes (get_or r 5 0) (get_or r 6 0) make)

  -- by kind
  kind_short : get_or r 0 0 ≡ 1 → is_some (item_from bytes r) ≡ is_some (short_from bytes (read_record r))
  unfolding item_from
  kind_short e = rw e

  kind_long : get_or r 0 0 ≡ 2 → is_some (item_from bytes r) ≡ is_some (long_from bytes (read_record r))
  unfolding item_from
  kind_long e = rw e

  abbrev Word : Type 0
  Word = is_some (item_from bytes r) ≡ (zeros (get_or r 1 0 ∷ get_or r 2 0 ∷ get_or r 3 0 ∷ get_or r 4 0 ∷ []) && text)

  kind_word : 3 ≤ get_or r 0 0 → get_or r 0 0 ≤ 5 → Word
  unfolding item_from word_from
  kind_word l h = ⊎_elim
      (λ (e : 3 ≡ get_or r 0 0). rw (sym e) (word_some ArgWord))
      (λ (m : 3 < get_or r 0 0). ⊎_elim
      (λ (e : 4 ≡ get_or r 0 0). rw (sym e) (word_some rules.Word))
      (λ (n : 4 < get_or r 0 0). let e : get_or r 0 0 ≡ 5 = omega arith in rw e (word_some PosWord))
      (eq-or-lt_of_le m))
      (eq-or-lt_of_le l)

  kind_other : (get_or r 0 0 ≡ 1 → ⊥) → (get_or r 0 0 ≡ 2 → ⊥) → (3 ≤ get_or r 0 0 → get_or r 0 0 ≤ 5 → ⊥) → false ≡ is_some (item_from bytes r)
  unfolding item_from is_some
  kind_other
      a
      b
      c
      =
      rw (
        ne_eqb (get_or r 0 0) 1 a,
        ne_eqb (get_or r 0 0) 2 b,
        ne_eqb (get_or r 0 0) 3 (λ e. c (omega arith) (omega arith)),
        ne_eqb (get_or r 0 0) 4
            (λ e. c (omega arith) (omega arith)),
        ne_eqb (get_or r 0 0) 5 (λ e. c (omega arith) (omega arith)),
      )

  -- with no room for the text there is no item
  none_here : (b : Bool) (o u : Option Item) → is_some o ≡ false → is_some u ≡ false → is_some (if b then o else u) ≡ false
  none_here true o u e f = e
  none_here false o u e f = f

  not_here : text ≡ false → is_some (item_from bytes r) ≡ false
  unfolding item_from is_some
  not_here e =
      none_here (eqb (get_or r 0 0) 1) _ _ (short_some ∙ rw (e, ← and_nothing (leb (get_or r 1 0) 1 && zeros (get_or r 3 0 ∷ get_or r 4 0 ∷ []))))
      (none_here (eqb (get_or r 0 0) 2) _ _ (long_some ∙ rw (e, ← and_nothing (leb (get_or r 3 0 + get_or r 4 0) (length bytes)), ← and_nothing (leb (get_or r 1 0) 1 && zeros (get_or r 2 0 ∷ []))))
      (none_here (eqb (get_or r 0 0) 3) _ _ (word ArgWord) (none_here (eqb (get_or r 0 0) 4) _ _ (word rules.Word) (none_here (eqb (get_or r 0 0) 5) _ _ (word PosWord) refl))))
    where
      word : (make : List ℕ → Item) → is_some (word_from make bytes (read_record r)) ≡ false
      word make = word_some make ∙ rw (e, ← and_nothing (zeros (get_or r 1 0 ∷ get_or r 2 0 ∷ get_or r 3 0 ∷ get_or r 4 0 ∷ [])))

  -- what the code tests
  module _ (area : ℕ) (long : length bytes ≡ area) (p : Bool) (ep : p ≡ leb (get_or r 5 0 + get_or r 6 0) area) where
    pub outside : not p ≡ true → false ≡ is_some (item_from bytes r)
    outside n = sym (not_here (rw long (sym ep ∙ not-true p n)))

    inside : not p ≡ false → text ≡ true
    inside n = rw long (sym ep ∙ not-false p n)

    pub is_short_lem : not p ≡ false → get_or r 0 0 ≡ 1 → (x : Bool) → x ≡ (leb (get_or r 1 0) 1 && zeros (get_or r 3 0 ∷ get_or r 4 0 ∷ []))
        → x ≡ is_some (item_from bytes r)
    is_short_lem n k x e = rw (kind_short k, short_some, inside n, and-true) e

    pub is_long_lem : not p ≡ false → get_or r 0 0 ≡ 2
        → (x : Bool) → x ≡ ((leb (get_or r 1 0) 1 && zeros (get_or r 2 0 ∷ [])) && leb (get_or r 3 0 + get_or r 4 0) area)
        → x ≡ is_some (item_from bytes r)
    is_long_lem n k x e = rw (kind_long k, long_some, inside n, and-true, long) e

    pub is_word : not p ≡ false → 3 ≤ get_or r 0 0 → get_or r 0 0 ≤ 5
        → (x : Bool) → x ≡ zeros (get_or r 1 0 ∷ get_or r 2 0 ∷ get_or r 3 0 ∷ get_or r 4 0 ∷ [])
        → x ≡ is_some (item_from bytes r)
    is_word n l h x e = rw (kind_word l h, inside n, and-true) e

    pub is_other : (get_or r 0 0 ≡ 1 → ⊥) → (get_or r 0 0 ≡ 2 → ⊥) → (3 ≤ get_or r 0 0 → get_or r 0 0 ≤ 5 → ⊥) → false ≡ is_some (item_from bytes r)
    is_other = kind_other

-- ---- the last record that is not all 0

record_later : (l : List ℕ) (n : ℕ) → record_at (drop 7 l) n ≡ record_at l (suc n)
record_later l n =
    let z : 7 * suc n ≡ 7 + 7 * n = omega arith in
    rw (z, drop-drop (7 * n) 7 l)

trim_zero : (n : ℕ) (l : List ℕ) → zeros (record_at l n) ≡ true → trimmed (records_in (suc n) l) ≡ trimmed (records_in n l)
unfolding trimmed records_in
trim_zero zero l h = rw h
trim_zero (suc n) l h = rw (trim_zero n (drop 7 l) (ap zeros (record_later l n) ∙ h))

trim_last : (n : ℕ) (l : List ℕ) → zeros (record_at l n) ≡ false → trimmed (records_in (suc n) l) ≡ records_in (suc n) l
unfolding trimmed records_in
trim_last zero l h = rw h
trim_last (suc n) l h = rw (trim_last n (drop 7 l) (ap zeros (record_later l n) ∙ h))

pub record Trimming (words : List ℕ) (n : ℕ) : Type 0 where
  pub within : n ≤ length words / 7
  pub same : trimmed (records_in (length words / 7) words) ≡ trimmed (records_in n words)

module _ (words : List ℕ) (n : ℕ) (z : Trimming words n) (h : 0 < n) (t : Bool) (e : t ≡ zeros (record_at words (n - 1))) where
  less : n ≡ suc (n - 1)
  less = omega arith

  pub trimming_next : not t ≡ false → Trimming words (n - 1)
  trimming_next k = record {
    within = omega (arith, z.within);
    same = z.same ∙ ap (λ (m : ℕ). trimmed (records_in m words)) less ∙ trim_zero (n - 1) words (sym e ∙ not-false t k);
  }

  pub trimming_last : not t ≡ true → Trims words (n - 1 + 1)
  trimming_last k = record {
    within = omega (arith, z.within);
    same = z.same ∙ ap (λ (m : ℕ). trimmed (records_in m words)) less ∙ trim_last (n - 1) words (sym e ∙ not-true t k)
        ∙ ap (λ (m : ℕ). records_in m words) (sym (add-one (n - 1)));
  }

pub trimming_none : (words : List ℕ) (n : ℕ) → Trimming words n → n ≤ 0 → Trims words 0
unfolding trimmed records_in
trimming_none words n z h =
    let e : n ≡ 0 = omega arith in
    record { within = omega arith; same = z.same ∙ rw e }

-- ---- each record is an item

items_some : (bytes r : List ℕ) (rs : List (List ℕ)) → is_some (items_from bytes (r ∷ rs)) ≡ (is_some (item_from bytes r) && is_some (items_from bytes rs))
unfolding items_from ◌>>?◌ is_some
items_some bytes r rs = go (item_from bytes r) (items_from bytes rs)
  where
    go : (o : Option Item) (p : Option (List Item)) → is_some (o >>? λ x. p >>? λ xs. some (x ∷ xs)) ≡ (is_some o && is_some p)
    go none p = refl
    go (some x) none = refl
    go (some x) (some xs) = refl

records_step : (words : List ℕ) (n i : ℕ) → i < n
    → records_in (n - i) (drop (7 * i) words) ≡ record_at words i ∷ records_in (n - (i + 1)) (drop (7 * (i + 1)) words)
unfolding records_in
records_step words n i h =
    let z : n - i ≡ suc (n - (i + 1)) = omega arith in
    let k : 7 * (i + 1) ≡ 7 * i + 7 = omega arith in
    rw (z, k, drop-drop 7 (7 * i) words)

pub record Itemizing (words : List ℕ) (n area i : ℕ) : Type 0 where
  pub within : i ≤ n
  pub same : (bytes : List ℕ) → length bytes ≡ area
      → is_some (items_from bytes (records_in (n - i) (drop (7 * i) words))) ≡ is_some (items_from bytes (records_in n words))

pub itemizing_first : (words : List ℕ) (n area : ℕ) → Itemizing words n area 0
itemizing_first words n area = record { within = omega arith; same = λ bytes e. rw (sub-zero n) }

module _ (words : List ℕ) (n area i : ℕ) (z : Itemizing words n area i) where
  module _ (h : i < n) (t : Bool) (e : (bytes : List ℕ) → length bytes ≡ area → t ≡ is_some (item_from bytes (record_at words i))) where
    step : (bytes : List ℕ) → length bytes ≡ area
        → (t && is_some (items_from bytes (records_in (n - (i + 1)) (drop (7 * (i + 1)) words)))) ≡ is_some (items_from bytes (records_in n words))
    step bytes k =
        rw (e bytes k)
        (sym (items_some bytes (record_at words i) (records_in (n - (i + 1)) (drop (7 * (i + 1)) words)))
        ∙ ap (λ (rs : List (List ℕ)). is_some (items_from bytes rs)) (sym (records_step words n i h)) ∙ z.same bytes k)

    pub itemizing_next : not t ≡ false → Itemizing words n area (i + 1)
    itemizing_next b = record {
      within = omega arith;
      same = λ bytes k. let y : t ≡ true = not-false t b in rw y at (step bytes k);
    }

    pub itemizing_bad : not t ≡ true → (bytes : List ℕ) → length bytes ≡ area → false ≡ is_some (items_from bytes (records_in n words))
    itemizing_bad b bytes k = let y : t ≡ false = not-true t b in rw y at (step bytes k)

  pub itemizing_last : n ≤ i → (bytes : List ℕ) → length bytes ≡ area → true ≡ is_some (items_from bytes (records_in n words))
  unfolding items_from records_in is_some
  itemizing_last h bytes k =
      let y : n - i ≡ 0 = omega arith in
      rw y at (z.same bytes k)
