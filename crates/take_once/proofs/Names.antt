-- Items with the same name, and the search back for the nearest.
use mathlib.Core.Path.{◌≡◌, refl, sym, ap, ◌∙◌, subst}
use mathlib.Core.Bool.{Bool, true, false}
use mathlib.Core.List.{List, [], ◌∷◌, reverse}
use mathlib.Core.Logic.{⊎_elim}
use mathlib.Core.Option.{some}
use Prim.Native.Nat.{ℕ, suc, ◌-◌, ◌≤◌, ◌<◌, ◌+◌}
use native.Mathlib.Omega.{arith}
use lib.Dec.{eqb}
use lib.ListN.{length, take, get_elem?}
use borrow.Author.Tests.{le-leb}
use types.Run.{OneOf}
use denote.Enum.Declared.{tag_of}
use Rattle.std.specs.Prelude.{if◌then◌else◌}
use Rattle.rules.specs.Base.{minus, ◌>>?◌}
use Rattle.rules.specs.Outcome.{at, ◌>>=◌}
use Rattle.rules.specs.Split as rules
use Rattle.rules.specs.State.{match_short, match_long, position, before}
use Rattle.rules.specs.Calls.{item_from}
use Rattle.rules.specs.Codes.{place_of}
use Rattle.rules.proofs.Acceptance.{lookup_some}
use Rattle.rules.proofs.CodeLaws.{place_some}
use Rattle.split_arg.specs.declared.Part.{Part}
use Rattle.split_arg.specs.declared.Item.{Item}
use Rattle.split_arg.specs.declared.Item.TheVariants.{Short, Long, ArgWord, Word, PosWord}
use Rattle.split_arg.specs.contracts.Item as T
use Rattle.split_arg.specs.Items.{record_at, item_of}
use Rattle.take_search.specs.Items.{Table, part_bytes}
use Rattle.take_search.specs.Search.{HasItem}
use Rattle.std.specs.Str.{bytes_eq}
use Rattle.take_search.proofs.NameLaws.{bytes_same}
use Rattle.take_search.proofs.Items.{is_short_lem, is_long_lem, is_arg_word_lem, is_word, is_pos_word_lem}
use Rattle.rules.specs.WhyAnswered.{same_named}
use Rattle.rules.proofs.OnceLaws.{back_more, once_searches}
use Rattle.take_once.specs.Once.{HasPlace, Earlier}

-- ---- two items

module _ (area r : List ℕ) (item : Item) (q : item ≡ item_of r) (y : rules.Item) (e : item_from area r ≡ some y) where
  pub short_is : (c d : ℕ) (own : Bool) (t : Part) → item ≡ Short d own t → eqb d c ≡ match_short c y
  unfolding match_short
  short_is c d own t h = rw (is_short_lem area r y e item q d own t h).0

  pub long_is : (name n : Part) (own : Bool) (t : Part) → item ≡ Long n own t
      → (a b : List ℕ) → a ≡ part_bytes area n → b ≡ part_bytes area name → (s : Bool) → s ≡ bytes_eq a b → s ≡ match_long (part_bytes area name) y
  unfolding match_long
  long_is name n own t h a b ea eb s es = rw ((is_long_lem area r y e item q n own t h).0, ← ea, ← eb) (es ∙ bytes_same a b)

  -- by the tags that are left
  pub short_not : (c : ℕ) → OneOf (1 ∷ 2 ∷ 3 ∷ 4 ∷ []) (tag_of T.the_type item) → false ≡ match_short c y
  unfolding match_short
  short_not c k = go item refl k
    where
      go : (z : Item) → item ≡ z → OneOf (1 ∷ 2 ∷ 3 ∷ 4 ∷ []) (tag_of T.the_type z) → false ≡ match_short c y
      go (Short d a t) h k =
          absurd (⊎_elim (λ (w : ◌≡◌ {A = ℕ} 0 1). omega arith) (⊎_elim (λ (w : ◌≡◌ {A = ℕ} 0 2). omega arith)
          (⊎_elim (λ (w : ◌≡◌ {A = ℕ} 0 3). omega arith) (λ (w : ◌≡◌ {A = ℕ} 0 4). omega arith))) k)
      go (Long n a t) h k = rw (is_long_lem area r y e item q n a t h).0
      go (ArgWord t) h k = rw (is_arg_word_lem area r y e item q t h).0
      go (Word t) h k = rw (is_word area r y e item q t h).0
      go (PosWord t) h k = rw (is_pos_word_lem area r y e item q t h).0

  pub long_not : (l : List ℕ) → OneOf (0 ∷ 2 ∷ 3 ∷ 4 ∷ []) (tag_of T.the_type item) → false ≡ match_long l y
  unfolding match_long
  long_not l k = go item refl k
    where
      go : (z : Item) → item ≡ z → OneOf (0 ∷ 2 ∷ 3 ∷ 4 ∷ []) (tag_of T.the_type z) → false ≡ match_long l y
      go (Short c a t) h k = rw (is_short_lem area r y e item q c a t h).0
      go (Long n a t) h k =
          absurd (⊎_elim (λ (w : ◌≡◌ {A = ℕ} 1 0). omega arith) (⊎_elim (λ (w : ◌≡◌ {A = ℕ} 1 2). omega arith)
          (⊎_elim (λ (w : ◌≡◌ {A = ℕ} 1 3). omega arith) (λ (w : ◌≡◌ {A = ℕ} 1 4). omega arith))) k)
      go (ArgWord t) h k = rw (is_arg_word_lem area r y e item q t h).0
      go (Word t) h k = rw (is_word area r y e item q t h).0
      go (PosWord t) h k = rw (is_pos_word_lem area r y e item q t h).0

module _ (area r : List ℕ) (item : Item) (q : item ≡ item_of r) (x : rules.Item) (e : item_from area r ≡ some x) (y : rules.Item) where
  pub named_short : (c : ℕ) (own : Bool) (t : Part) → item ≡ Short c own t → (s : Bool) → s ≡ match_short c y → s ≡ same_named x y
  unfolding same_named
  named_short c own t h s es = rw (is_short_lem area r x e item q c own t h).0 es

  pub named_long : (n : Part) (own : Bool) (t : Part) → item ≡ Long n own t → (s : Bool) → s ≡ match_long (part_bytes area n) y → s ≡ same_named x y
  unfolding same_named
  named_long n own t h s es = rw (is_long_lem area r x e item q n own t h).0 es

  pub named_not : OneOf (2 ∷ 3 ∷ 4 ∷ []) (tag_of T.the_type item) → false ≡ same_named x y
  unfolding same_named
  named_not k = go item refl k
    where
      go : (z : Item) → item ≡ z → OneOf (2 ∷ 3 ∷ 4 ∷ []) (tag_of T.the_type z) → false ≡ same_named x y
      go (Short c a t) h k = absurd (⊎_elim (λ (w : ◌≡◌ {A = ℕ} 0 2). omega arith) (⊎_elim (λ (w : ◌≡◌ {A = ℕ} 0 3). omega arith) (λ (w : ◌≡◌ {A = ℕ} 0 4). omega arith)) k)
      go (Long n a t) h k = absurd (⊎_elim (λ (w : ◌≡◌ {A = ℕ} 1 2). omega arith) (⊎_elim (λ (w : ◌≡◌ {A = ℕ} 1 3). omega arith) (λ (w : ◌≡◌ {A = ℕ} 1 4). omega arith)) k)
      go (ArgWord t) h k = rw (is_arg_word_lem area r x e item q t h).0
      go (Word t) h k = rw (is_word area r x e item q t h).0
      go (PosWord t) h k = rw (is_pos_word_lem area r x e item q t h).0

-- ---- the places before one

pub place_item : (s words : List ℕ) (i j : ℕ) → HasPlace s words i → j ≤ i → HasItem s words j
place_item s words i j g h =
    let x = lookup_some g.items j (omega (arith, g.below)) in
    record { made = g.made; room = omega (arith, g.table.room, g.below); item = x.0; here = g.table.at j x.0 x.1 }

pub record Looking (area words : List ℕ) (i j : ℕ) : Type 0 where
  pub within : j ≤ i
  pub same : (is : List rules.Item) → Table area words is → i < length is → (x : rules.Item) → get_elem? is i ≡ some x
      → position (same_named x) (i - j) (reverse (take j is)) ≡ position (same_named x) 0 (reverse (take i is))

pub looking_first : (area words : List ℕ) (i : ℕ) → Looking area words i i
looking_first area words i = record {
  within = omega arith;
  same = λ is t h x e. let z : i - i ≡ 0 = omega arith in rw z;
}

-- what the code says of two places
abbrev pub Same : List ℕ → List ℕ → ℕ → ℕ → Bool → Type 0
Same area words i j r =
    (x y : rules.Item) → item_from area (record_at words i) ≡ some x → item_from area (record_at words j) ≡ some y → r ≡ same_named x y

module _ (area words : List ℕ) (i j : ℕ) (z : Looking area words i j) where
  module _ (h : 0 < j) (r : Bool) (said : Same area words i (j - 1) r) where
    step : (is : List rules.Item) → Table area words is → i < length is → (x : rules.Item) → get_elem? is i ≡ some x
        → (if r then some (i - j) else position (same_named x) (i - (j - 1)) (reverse (take (j - 1) is))) ≡ position (same_named x) 0 (reverse (take i is))
    unfolding position
    step is t l x e =
        let y = lookup_some is (j - 1) (omega (arith, z.within)) in
        let w : r ≡ same_named x y.0 = said x y.0 (t.at i x e) (t.at (j - 1) y.0 y.1) in
        let b : j ≡ suc (j - 1) = omega arith in
        let n : i - (j - 1) ≡ suc (i - j) = omega (arith, z.within) in
        rw (w, n)
        (ap (position (same_named x) (i - j)) (sym (ap (λ (k : ℕ). reverse (take k is)) b ∙ back_more is (j - 1) y.0 y.1)) ∙ z.same is t l x e)

    pub looking_next : r ≡ false → Looking area words i (j - 1)
    looking_next n = record {
      within = omega (arith, z.within);
      same = λ is t l x e. rw n at (step is t l x e);
    }

    hit : r ≡ true → Earlier area words i j
    unfolding before at minus place_of ◌>>=◌ ◌>>?◌
    hit n = record {
      within = z.within;
      same = λ is t l.
          let x = lookup_some is i l in
          let w = z.within in
          let found : position (same_named x.0) 0 (reverse (take i is)) ≡ some (i - j) = sym (rw n at (step is t l x.0 x.1)) in
          let k : i - (i - j) ≡ j = omega arith in
          once_searches is i x.0 x.1
          ∙ rw (found, le-leb (i - j) i (omega arith), k, le-leb 1 j h, place_some j (λ e. omega arith));
    }

    pub looking_hit : r ≡ true → Earlier area words i (j - 1 + 1)
    looking_hit n = let e : j ≡ j - 1 + 1 = omega (arith, h) in subst (Earlier area words i) e (hit n)

  pub looking_last : j ≤ 0 → Earlier area words i 0
  unfolding position before place_of
  looking_last h = record {
    within = omega arith;
    same = λ is t l.
        let x = lookup_some is i l in
        let e : j ≡ 0 = omega arith in
        once_searches is i x.0 x.1 ∙ ap (before i) (sym (z.same is t l x.0 x.1)) ∙ rw e;
  }
