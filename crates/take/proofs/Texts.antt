-- The text of an item, whether it is a PosWord, and whether it may be a command: the code's item and the rules' say the same.
use mathlib.Core.Path.{◌≡◌, refl, sym, ap, ◌∙◌}
use mathlib.Core.Bool.{Bool, true, false, not, ◌||◌}
use mathlib.Core.List.{List, [], ◌∷◌}
use mathlib.Core.Logic.{⊎_elim, inl, inr}
use mathlib.Core.Option.{Option, some, none}
use Prim.Native.Nat.{ℕ, ◌+◌, ◌*◌, ◌≤◌, ◌<◌}
use native.Mathlib.Nat.{add-zero}
use native.Mathlib.Omega.{arith}
use lib.Dec.{eqb, lit<}
use lib.ListN.{length, get_or, drop}
use lib.Seq.{get_or-take, get_or-drop}
use borrow.Author.Tests.{eqb-true}
use types.Run.{OneOf}
use denote.Enum.Declared.{tag_of}
use Rattle.std.specs.Prelude.{if◌then◌else◌}
use Rattle.std.specs.Str.{bytes_eq}
use Rattle.rules.specs.Calls.{item_from}
use Rattle.rules.specs.Sheet.{sheet_area}
use Rattle.rules.specs.Split as rules
use Rattle.rules.specs.Take.{value_text, text_of, is_pos_word, command_text, is_command}
use Rattle.split_arg.specs.declared.Part.{Part}
use Rattle.split_arg.specs.declared.Item.{Item}
use Rattle.split_arg.specs.declared.Item.TheVariants.{Short, Long, ArgWord, Word, PosWord}
use Rattle.split_arg.specs.Items.{record_at, part_at, item_of}
use Rattle.split_arg.specs.contracts.Item as T
use Rattle.take_search.specs.Items.{part_bytes, HasPart, operand_kind}
use Rattle.take_search.specs.Search.{HasItem}
use Rattle.take_search.proofs.NameLaws.{bytes_same}
use Rattle.take_search.proofs.Items.{is_short_lem, is_long_lem, is_arg_word_lem, is_word, is_pos_word_lem}
use Rattle.take.specs.Takes.{text_part, strict_item, compared_item}

-- the tags that an arm for all others leaves
pub tags_not_word : (z : Item) → ((t : Part) → z ≡ ArgWord t → ⊥) → ((t : Part) → z ≡ Word t → ⊥) → OneOf (0 ∷ 1 ∷ 4 ∷ []) (tag_of T.the_type z)
tags_not_word (Short c a t) h w = inl refl
tags_not_word (Long n a t) h w = inr (inl refl)
tags_not_word (ArgWord t) h w = absurd (h t refl)
tags_not_word (Word t) h w = absurd (w t refl)
tags_not_word (PosWord t) h w = inr (inr refl)

-- what the rules' item has of the code's
pub record Agrees (area : List ℕ) (item : Item) (x : rules.Item) : Type 0 where
  pub inside : (text_part item).offset + (text_part item).length ≤ length area
  pub text : text_of x ≡ part_bytes area (text_part item)
  pub strict : is_pos_word x ≡ strict_item item
  pub compared : command_text x ≡ (if compared_item item then some (part_bytes area (text_part item)) else none)

long_compared : (a : Bool) (t : List ℕ) → ◌≡◌ {A = Option (List ℕ)} (if a then none else some t) (if not a then some t else none)
long_compared true t = refl
long_compared false t = refl

pub agrees : (area r : List ℕ) (x : rules.Item) → item_from area r ≡ some x → (item : Item) → item ≡ item_of r → Agrees area item x
unfolding text_of is_pos_word command_text
agrees area r x e (Short c a t) q =
    let z = is_short_lem area r x e (Short c a t) q c a t refl in
    rw z.0 (record { inside = z.1; text = refl; strict = refl; compared = refl })
agrees area r x e (Long n a t) q =
    let z = is_long_lem area r x e (Long n a t) q n a t refl in
    rw z.0 (record { inside = z.1.1; text = refl; strict = refl; compared = long_compared a (part_bytes area t) })
agrees area r x e (ArgWord t) q =
    let z = is_arg_word_lem area r x e (ArgWord t) q t refl in
    rw z.0 (record { inside = z.1; text = refl; strict = refl; compared = refl })
agrees area r x e (Word t) q =
    let z = is_word area r x e (Word t) q t refl in
    rw z.0 (record { inside = z.1; text = refl; strict = refl; compared = refl })
agrees area r x e (PosWord t) q =
    let z = is_pos_word_lem area r x e (PosWord t) q t refl in
    rw z.0 (record { inside = z.1; text = refl; strict = refl; compared = refl })

-- ---- what stands in a record, whatever its kind

-- word k of a record
word_at_lem : (words : List ℕ) (i k : ℕ) → k < 7 → get_or (record_at words i) k 0 ≡ get_or words (7 * i + k) 0
word_at_lem words i k h = get_or-take 7 (drop (7 * i) words) k 0 h ∙ get_or-drop (7 * i) words k 0

if_text : (b : Bool) (x y : Item) (t : Part) → text_part x ≡ t → text_part y ≡ t → text_part (if b then x else y) ≡ t
if_text true x y t e f = e
if_text false x y t e f = f

pub text_read : (words : List ℕ) (i : ℕ)
    → record { offset = get_or words (7 * i + 5) 0; length = get_or words (7 * i + 6) 0 } ≡ text_part (item_of (record_at words i))
unfolding item_of
text_read words i =
    let r : List ℕ = record_at words i in
    sym (if_text (eqb (get_or r 0 0) 1) _ _ (part_at r 5) refl
    (if_text (eqb (get_or r 0 0) 2) _ _ (part_at r 5) refl
    (if_text (eqb (get_or r 0 0) 3) _ _ (part_at r 5) refl
    (if_text (eqb (get_or r 0 0) 4) _ _ (part_at r 5) refl refl)))
    ∙ (λ j. record { offset = word_at_lem words i 5 (lit< tt) j; length = word_at_lem words i 6 (lit< tt) j }))

-- of a Word and a PosWord, the kind says which it is
pub strict_read : (words : List ℕ) (i : ℕ) → operand_kind (get_or words (7 * i) 0) ≡ true
    → eqb (get_or words (7 * i) 0) 5 ≡ strict_item (item_of (record_at words i))
unfolding item_of operand_kind
strict_read words i h = go (eqb (get_or words (7 * i) 0) 4) refl h
  where
    kind : get_or (record_at words i) 0 0 ≡ get_or words (7 * i) 0
    kind = word_at_lem words i 0 (lit< tt) ∙ ap (λ (k : ℕ). get_or words k 0) (add-zero (7 * i))

    go : (b : Bool) → eqb (get_or words (7 * i) 0) 4 ≡ b → (b || eqb (get_or words (7 * i) 0) 5) ≡ true
        → eqb (get_or words (7 * i) 0) 5 ≡ strict_item (item_of (record_at words i))
    go true e h = rw (kind, eqb-true (get_or words (7 * i) 0) 4 e)
    go false e h = rw (kind, eqb-true (get_or words (7 * i) 0) 5 h)

-- ---- values

pub word_value : (area r : List ℕ) (x : rules.Item) → item_from area r ≡ some x → (item : Item) → item ≡ item_of r → (t : Part) → item ≡ Word t
    → value_text (some x) ≡ some (part_bytes area t)
unfolding value_text
word_value area r x e item q t h = rw (is_word area r x e item q t h).0

pub arg_word_value : (area r : List ℕ) (x : rules.Item) → item_from area r ≡ some x → (item : Item) → item ≡ item_of r → (t : Part) → item ≡ ArgWord t
    → value_text (some x) ≡ some (part_bytes area t)
unfolding value_text
arg_word_value area r x e item q t h = rw (is_arg_word_lem area r x e item q t h).0

pub no_value_lem : (area r : List ℕ) (x : rules.Item) → item_from area r ≡ some x → (item : Item) → item ≡ item_of r
    → OneOf (0 ∷ 1 ∷ 4 ∷ []) (tag_of T.the_type item) → value_text (some x) ≡ none
unfolding value_text
no_value_lem area r x e (Short c a t) q k = rw (is_short_lem area r x e (Short c a t) q c a t refl).0
no_value_lem area r x e (Long n a t) q k = rw (is_long_lem area r x e (Long n a t) q n a t refl).0
no_value_lem area r x e (ArgWord t) q k =
    absurd (⊎_elim (λ (e : ◌≡◌ {A = ℕ} 2 0). omega arith) (⊎_elim (λ (e : ◌≡◌ {A = ℕ} 2 1). omega arith) (λ (e : ◌≡◌ {A = ℕ} 2 4). omega arith)) k)
no_value_lem area r x e (Word t) q k =
    absurd (⊎_elim (λ (e : ◌≡◌ {A = ℕ} 3 0). omega arith) (⊎_elim (λ (e : ◌≡◌ {A = ℕ} 3 1). omega arith) (λ (e : ◌≡◌ {A = ℕ} 3 4). omega arith)) k)
no_value_lem area r x e (PosWord t) q k = rw (is_pos_word_lem area r x e (PosWord t) q t refl).0

-- ---- commands

module _ (s words : List ℕ) (i : ℕ) (item : Item) (q : item ≡ item_of (record_at words i)) where
  pub text_part_lem : HasItem s words i → (t : Part) → t ≡ text_part item → HasPart s t
  text_part_lem g t e =
      rw e (record { made = g.made; inside = (agrees (sheet_area s) (record_at words i) g.item g.here item q).inside })

  module _ (word : List ℕ) where
    abbrev Commands : Bool → Type 0
    Commands r = (x : rules.Item) → item_from (sheet_area s) (record_at words i) ≡ some x → r ≡ is_command word (some (record { place = i; item = x }))

    pub no_command : (f : Bool) → f ≡ compared_item item → f ≡ false → Commands f
    unfolding is_command
    no_command f ef n x e =
        let a = agrees (sheet_area s) (record_at words i) x e item q in
        let w : compared_item item ≡ false = sym ef ∙ n in
        let z : command_text x ≡ none = a.compared ∙ rw w in
        rw (z, n, is_command)

    pub a_command : (f : Bool) → f ≡ compared_item item → f ≡ true → (t : Part) → t ≡ text_part item
        → (y : List ℕ) → y ≡ part_bytes (sheet_area s) t → (r : Bool) → r ≡ bytes_eq y word → Commands r
    unfolding is_command
    a_command f ef n t et y ey r er x e =
        let a = agrees (sheet_area s) (record_at words i) x e item q in
        let w : compared_item item ≡ true = sym ef ∙ n in
        let v : part_bytes (sheet_area s) (text_part item) ≡ y = sym (ey ∙ ap (part_bytes (sheet_area s)) et) in
        let z : command_text x ≡ some y = a.compared ∙ rw (w, v) in
        rw (z, is_command) (er ∙ bytes_same y word)
