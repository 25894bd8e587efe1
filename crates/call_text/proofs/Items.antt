-- The text of an item is the part of the area that words 5 and 6 of its record name.
use mathlib.Core.Path.{◌≡◌, refl, sym, ap, ◌∙◌}
use mathlib.Core.List.{List}
use mathlib.Core.Logic.{inl}
use mathlib.Core.Option.{some, some-injective}
use Prim.Native.Nat.{ℕ, ◌+◌, ◌*◌, ◌≤◌, ◌<◌}
use native.Mathlib.Omega.{arith}
use lib.Dec.{eqb, lit<}
use lib.ListN.{length, get_or, take, drop}
use lib.Seq.{drop-drop}
use borrow.Author.Tests.{leb-true}
use Rattle.wire.specs.Wire.{area_start, area as wire_area}
use Rattle.wire.specs.Laws.{start_most}
use Rattle.rules.specs.Base.{◌>>?◌}
use Rattle.rules.specs.Sheet.{argument_count, sheet_area}
use Rattle.rules.specs.Split.{Item, Short, Long, ArgWord, Word, PosWord}
use Rattle.rules.specs.Take.{text_of}
use Rattle.rules.specs.Calls.{part_in, read_record, short_from, long_from, word_from, item_from}
use Rattle.rules.proofs.Acceptance.{if_some, branch, bind_some}
use Rattle.rules.proofs.Formats.{good_sheet}
use Rattle.split_arg.specs.Items.{record_at}
use Rattle.split_arg.proofs.Records.{word_of}
use Rattle.take_search.specs.Search.{HasItem}
use Rattle.call_table.proofs.Laws.{start_within, area_length_lem}
use Rattle.call_text.specs.Text.{item_part, FindsText}

pub record TextIn (area : List ℕ) (offset size : ℕ) (x : Item) : Type 0 where
  pub inside : offset + size ≤ length area
  pub same : take size (drop offset area) ≡ text_of x

module _ (area : List ℕ) (offset size : ℕ) (x : Item) where
  part_made : (make : List ℕ → Item) → ((t : List ℕ) → text_of (make t) ≡ t)
      → (part_in area offset size >>? λ t. some (make t)) ≡ some x → TextIn area offset size x
  unfolding part_in
  part_made make is e =
      let f = bind_some (part_in area offset size) (λ t. some (make t)) e in
      let g = if_some _ _ f.1 in
      let made : make f.0 ≡ x = some-injective _ _ f.2 in
      let part : take size (drop offset area) ≡ f.0 = some-injective _ _ g.1 in
      record {
        inside = leb-true (offset + size) (length area) g.0;
        same = part ∙ sym (is f.0) ∙ ap text_of made;
      }

item_text : (area r : List ℕ) (x : Item) → item_from area r ≡ some x → TextIn area (get_or r 5 0) (get_or r 6 0) x
unfolding item_from short_from long_from word_from text_of
item_text area r x e =
    let word : (make : List ℕ → Item) → ((t : List ℕ) → text_of (make t) ≡ t) → word_from make area (read_record r) ≡ some x → TextIn area (get_or r 5 0) (get_or r 6 0) x =
    λ make is h. part_made area (get_or r 5 0) (get_or r 6 0) x make is (if_some _ _ h).1 in
    branch (eqb (get_or r 0 0) 1) (short_from area (read_record r)) _
    (λ _ h. part_made area (get_or r 5 0) (get_or r 6 0) x (Short (get_or r 2 0) (eqb (get_or r 1 0) 1)) (λ _. refl) (if_some _ _ h).1)
    (branch (eqb (get_or r 0 0) 2) (long_from area (read_record r)) _
    (λ _ h.
    let f = bind_some _ _ (if_some _ _ h).1 in
    part_made area (get_or r 5 0) (get_or r 6 0) x (Long f.0 (eqb (get_or r 1 0) 1)) (λ _. refl) f.2)
    (branch (eqb (get_or r 0 0) 3) (word_from ArgWord area (read_record r)) _ (λ _. word ArgWord (λ _. refl))
    (branch (eqb (get_or r 0 0) 4) (word_from Word area (read_record r)) _ (λ _. word Word (λ _. refl))
    (λ h. word PosWord (λ _. refl) (if_some _ _ h).1)))) e

module _
    (s words : List ℕ) (i : ℕ) (h : HasItem s words i)
    (n : ℕ) (en : n ≡ argument_count s) (a : ℕ) (ea : a ≡ area_start 2 n)
    (o z : ℕ) (eo : o ≡ get_or words (7 * i + 5) 0) (ez : z ≡ get_or words (7 * i + 6) 0)
  where
    words_text : (x : Item) → item_from (sheet_area s) (record_at words i) ≡ some x → TextIn (sheet_area s) o z x
    words_text x here =
        let p = word_of words i 5 o (lit< tt) eo in
        let q = word_of words i 6 z (lit< tt) ez in
        rw (p, q) at (item_text (sheet_area s) (record_at words i) x here)

    text_inside : o + z ≤ length (sheet_area s)
    text_inside = (words_text h.item h.here).inside

    pub item_small : a + o < 4294967296
    item_small = omega (arith, text_inside, (good_sheet s h.made).fits, (good_sheet s h.made).few, start_most 2 n (inl refl))

    pub item_finds : (x : Item) → item_from (sheet_area s) (record_at words i) ≡ some x
        → FindsText s 0 (text_of x) (some (item_part s words i)) (record { number = 0; place = 0; source = 0; offset = a + o; length = z })
    unfolding sheet_area wire_area item_part
    item_finds x here = record {
      number = refl;
      place = refl;
      source = refl;
      inside = omega (arith, text_inside, area_length_lem s h.made n en a ea, start_within s h.made n en a ea);
      same = rw (ea, en, ← drop-drop o (area_start 2 (argument_count s)) s) (words_text x here).same;
      exact = rw (ea, en, word_of words i 5 o (lit< tt) eo, word_of words i 6 z (lit< tt) ez);
    }
