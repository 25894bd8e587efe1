-- The records of the definition's items, as the code's items have them.
use mathlib.Core.Path.{◌≡◌, refl, ◌∙◌, ap, ap₂}
use mathlib.Core.Bool.{Bool, true, false}
use mathlib.Core.List.{List, [], ◌∷◌, ◌++◌}
use Prim.Native.Nat.{ℕ, suc, ◌+◌, ◌-◌, ◌*◌, ◌≤◌}
use native.Mathlib.Omega.{arith}
use lib.Dec.{eqb}
use lib.ListN.{length, take, drop, length-drop, length-append, length-map}
use lib.Seq.{length-take-le}
use borrow.Author.Tests.{eqb-true}
use Rattle.std.specs.Prelude.{if◌then◌else◌}
use Rattle.rules.specs.Base.{concat_map}
use Rattle.rules.specs.Split.{record_words, bit, part_offset, record_with, item_record, item_words, flag_items}
use Rattle.rules.specs.Split as rules
use Rattle.split_arg.specs.declared.Part.{Part}
use Rattle.split_arg.specs.declared.Item.TheVariants.{Short, Long, ArgWord, Word, PosWord}
use Rattle.split_arg.specs.Items.{nothing, part_of, record_of}
use Rattle.split_arg.specs.Clusters.{characters}
use Rattle.split_group.specs.Groups.{letters_in, first_letters, flag_words, Flags}

-- the words of a part, as the code has them
abbrev pub PartIs : ℕ → ℕ → Part → Type 0
PartIs o n p = (part_offset o n ≡ p.offset) × (n ≡ p.length)

part_is : (o n : ℕ) → PartIs o n (part_of o n)
unfolding part_offset part_of
part_is o n = go (eqb n 0) refl
  where
    two : Bool → Part
    two t = if t then record { offset = 0; length = 0 } else record { offset = o; length = n }

    go : (t : Bool) → eqb n 0 ≡ t → ((if t then 0 else o) ≡ (two t).offset) × (n ≡ (two t).length)
    go true e = (refl, eqb-true n 0 e)
    go false e = (refl, refl)

-- the words of a text, where it ends
abbrev pub TextIs : ℕ → List ℕ → Part → Type 0
TextIs end t p = PartIs (end - length t) (length t) p

pub no_text : (end : ℕ) → TextIs end [] nothing
unfolding part_offset
no_text end = (refl, refl)

pub text_from :
    (os : List ℕ) (begin k : ℕ) (p : Part)
    → k ≤ length os
    → p ≡ part_of (begin + k) (length os - k)
    → TextIs (begin + length os) (drop k os) p
text_from os begin k p h e =
    let l = length-drop k os in
    let i : begin + length os - length (drop k os) ≡ begin + k = omega arith in
    rw (e, i, l) (part_is (begin + k) (length os - k))

-- the first k bytes behind the dashes
pub name_from : (os : List ℕ) (begin n : ℕ) (p : Part) → n + 2 ≤ length os → p ≡ part_of (begin + 2) (n + 2 - 2)
    → PartIs (begin + 2) (length (take n (drop 2 os))) p
name_from os begin n p h e =
    let l : length (take n (drop 2 os)) ≡ n + 2 - 2 = length-take-le n (drop 2 os) (omega (arith, length-drop 2 os)) ∙ (let r : n ≡ n + 2 - 2 = omega arith in r) in
    rw (l, e) (part_is (begin + 2) (n + 2 - 2))

module _ (begin end : ℕ) (t : List ℕ) (p : Part) (h : TextIs end t p) where
  -- an item with no name
  unnamed : (kind adjacent character : ℕ)
      → record_words (record_with begin end kind adjacent character [] t) ≡ kind ∷ adjacent ∷ character ∷ 0 ∷ 0 ∷ p.offset ∷ p.length ∷ []
  unfolding record_words record_with part_offset
  unnamed kind adjacent character = ap₂ (λ (o n : ℕ). kind ∷ adjacent ∷ character ∷ 0 ∷ 0 ∷ o ∷ n ∷ []) h.0 h.1

  pub short_record : (c : ℕ) (a : Bool) → item_words begin end (rules.Short c a t) ≡ record_of (Short c a p)
  unfolding item_words item_record
  short_record c a = unnamed 1 (bit a) c

  pub long_record :
      (n : List ℕ) (q : Part) (a : Bool)
      → PartIs (begin + 2) (length n) q
      → item_words begin end (rules.Long n a t) ≡ record_of (Long q a p)
  unfolding item_words item_record record_words record_with
  long_record n q a e = rw (e.0, e.1, h.0, h.1)

  pub arg_word_record : item_words begin end (rules.ArgWord t) ≡ record_of (ArgWord p)
  unfolding item_words item_record bit
  arg_word_record = unnamed 3 0 0

  pub word_record : item_words begin end (rules.Word t) ≡ record_of (Word p)
  unfolding item_words item_record bit
  word_record = unnamed 4 0 0

  pub pos_word_record : item_words begin end (rules.PosWord t) ≡ record_of (PosWord p)
  unfolding item_words item_record bit
  pos_word_record = unnamed 5 0 0

pub flag_records :
    (begin end : ℕ) (t : List ℕ) (p : Part) (cs : List ℕ)
    → TextIs end t p
    → concat_map (item_words begin end) (flag_items t cs) ≡ flag_words p cs
unfolding flag_items flag_words concat_map
flag_records begin end t p [] h = refl
flag_records begin end t p (c ∷ cs) h =
    ap₂ (λ (v w : List ℕ). v ++ w) (short_record begin end t p h c false) (flag_records begin end [] nothing cs (no_text end))

pub flags_count : (t cs : List ℕ) → length (flag_items t cs) ≡ length cs
unfolding flag_items
flags_count t [] = refl
flags_count t (c ∷ cs) = ap suc (flags_count [] cs)

pub flag_words_length : (p : Part) (cs : List ℕ) → length (flag_words p cs) ≡ 7 * length cs
unfolding flag_words
flag_words_length p [] = refl
flag_words_length p (c ∷ cs) =
    omega (arith, length-append (record_of (Short c false p)) (flag_words nothing cs), flag_words_length nothing cs)

pub flags_size : (p : Part) (name : List ℕ) (n at : ℕ) → Flags name n at → length (flag_words p (first_letters name n)) ≡ 7 * n
unfolding characters
flags_size p name n at f =
    let few = f.few in
    let size = length-take-le n (characters (letters_in name)) (omega (arith, length-map (letters_in name) (λ (x : rules.Letter). x.character))) in
    omega (arith, flag_words_length p (first_letters name n))
