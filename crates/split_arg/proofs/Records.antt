-- Items and their records: each gives the other.
use mathlib.Core.Path.{◌≡◌, refl, sym, ◌∙◌, ap, ap₂}
use mathlib.Core.Bool.{Bool, true, false}
use mathlib.Core.List.{List, [], ◌∷◌}
use Prim.Native.Nat.{ℕ, suc, ◌+◌, ◌*◌, ◌≤◌, ◌<◌}
use native.Mathlib.Omega.{arith}
use lib.Dec.{eqb, leb, lit<}
use lib.ListN.{length, get_or, drop, set, length-set}
use lib.Seq.{get_or-take, get_or-drop, sets}
use borrow.Author.Tests.{ne_eqb}
use Rattle.std.specs.Int.{from_bool}
use Rattle.rules.specs.Base.{all}
use Rattle.rules.specs.Split.{bit}
use Rattle.rules.specs.Tree.{zeros}
use Rattle.rules.specs.Calls.{item_from, short_from, long_from, word_from}
use Rattle.split_arg.specs.declared.Part.{Part}
use Rattle.split_arg.specs.declared.Item.{Item}
use Rattle.split_arg.specs.declared.Item.TheVariants.{Short, Long, ArgWord, Word, PosWord}
use Rattle.split_arg.specs.Items.{record_of, record_at, part_at, item_of, in_area}

-- a test as a number
pub from_bit : (b : Bool) (n : ℕ) → n ≡ from_bool b → n ≡ bit b
unfolding bit
from_bit true n e = e
from_bit false n e = e

-- the words of a record, in the slice
pub word_of : (l : List ℕ) (at k w : ℕ) → k < 7 → w ≡ get_or l (7 * at + k) 0 → get_or (record_at l at) k 0 ≡ w
word_of l at k w h e = get_or-take 7 (drop (7 * at) l) k 0 h ∙ get_or-drop (7 * at) l k 0 ∙ sym e

-- `read_item`, by the kind
module _
    (l : List ℕ)
    (at w₀ w₁ w₅ w₆ : ℕ)
    (e₁ : w₁ ≡ get_or l (7 * at + 1) 0)
    (e₅ : w₅ ≡ get_or l (7 * at + 5) 0)
    (e₆ : w₆ ≡ get_or l (7 * at + 6) 0)
    (e₀ : w₀ ≡ get_or l (7 * at + 0) 0)
  where
    kind : get_or (record_at l at) 0 0 ≡ w₀
    kind = word_of l at 0 w₀ (lit< tt) e₀

    text : part_at (record_at l at) 5 ≡ record { offset = w₅; length = w₆ }
    text = λ i. record { offset = word_of l at 5 w₅ (lit< tt) e₅ i; length = word_of l at 6 w₆ (lit< tt) e₆ i }

    pub read_short : (w₂ : ℕ) → w₂ ≡ get_or l (7 * at + 2) 0 → w₀ ≡ 1 → Short w₂ (eqb w₁ 1) (record { offset = w₅; length = w₆ }) ≡ item_of (record_at l at)
    unfolding item_of
    read_short w₂ e₂ k = sym (rw (kind, k, word_of l at 2 w₂ (lit< tt) e₂, word_of l at 1 w₁ (lit< tt) e₁) (ap (λ (p : Part). Short w₂ (eqb w₁ 1) p) text))

    pub read_long :
        (w₃ w₄ : ℕ)
        → w₃ ≡ get_or l (7 * at + 3) 0
        → w₄ ≡ get_or l (7 * at + 4) 0
        → w₀ ≡ 2
        → Long (record { offset = w₃; length = w₄ }) (eqb w₁ 1) (record { offset = w₅; length = w₆ }) ≡ item_of (record_at l at)
    unfolding item_of
    read_long w₃ w₄ e₃ e₄ k =
        let name : part_at (record_at l at) 3 ≡ record { offset = w₃; length = w₄ } =
        λ i. record { offset = word_of l at 3 w₃ (lit< tt) e₃ i; length = word_of l at 4 w₄ (lit< tt) e₄ i } in
        sym (rw (kind, k, word_of l at 1 w₁ (lit< tt) e₁) (ap₂ (λ (n p : Part). Long n (eqb w₁ 1) p) name text))

    pub read_arg_word : w₀ ≡ 3 → ArgWord (record { offset = w₅; length = w₆ }) ≡ item_of (record_at l at)
    unfolding item_of
    read_arg_word k = sym (rw (kind, k) (ap ArgWord text))

    pub read_word : w₀ ≡ 4 → Word (record { offset = w₅; length = w₆ }) ≡ item_of (record_at l at)
    unfolding item_of
    read_word k = sym (rw (kind, k) (ap Word text))

    pub read_pos_word :
        (w₀ ≡ 1 → ⊥)
        → (w₀ ≡ 2 → ⊥)
        → (w₀ ≡ 3 → ⊥)
        → (w₀ ≡ 4 → ⊥)
        → PosWord (record { offset = w₅; length = w₆ }) ≡ item_of (record_at l at)
    unfolding item_of
    read_pos_word a b c d =
        sym (rw (kind, ne_eqb w₀ 1 a, ne_eqb w₀ 2 b, ne_eqb w₀ 3 c, ne_eqb w₀ 4 d) (ap PosWord text))

bit_back : (b : Bool) → eqb (bit b) 1 ≡ b
unfolding bit
bit_back true = refl
bit_back false = refl

-- an item read from its own record is that item
pub item_record_lem : (x : Item) → item_of (record_of x) ≡ x
unfolding item_of
item_record_lem (Short c a t) = rw (bit_back a)
item_record_lem (Long n a t) = rw (bit_back a)
item_record_lem (ArgWord t) = refl
item_record_lem (Word t) = refl
item_record_lem (PosWord t) = refl

pub record_injective : (x y : Item) → record_of x ≡ record_of y → x ≡ y
record_injective x y e = sym (item_record_lem x) ∙ ap item_of e ∙ item_record_lem y

-- the record of an item read from a record that is some item's is that record
pub record_item : (x : Item) (r : List ℕ) → r ≡ record_of x → record_of (item_of r) ≡ r
record_item x r e = rw (e, item_record_lem x)

bit_small : (b : Bool) → leb (bit b) 1 ≡ true
unfolding bit
bit_small true = refl
bit_small false = refl

-- what the rules read from the record of an item
pub from_record : (area : List ℕ) (x : Item) → item_from area (record_of x) ≡ in_area area x
unfolding item_from short_from long_from word_from zeros all bit
from_record area (Short c a t) = rw (bit_small a, bit_back a)
from_record area (Long n a t) = rw (bit_small a, bit_back a)
from_record area (ArgWord t) = refl
from_record area (Word t) = refl
from_record area (PosWord t) = refl

-- ---- a record, stored word by word
pub in_room : (i n : ℕ) → i + 7 ≤ n → (j : ℕ) → j < 7 → (m : ℕ) → m ≡ n → i + j < m
in_room i n h j l m e = omega arith

-- after five words, and after six
five_long :
    (l : List ℕ) (i a b c d e : ℕ)
    → length (set (set (set (set (set l i a) (i + 1) b) (i + 2) c) (i + 3) d) (i + 4) e) ≡ length l
five_long l i a b c d e =
    let l₁ = set l i a in
    let l₂ = set l₁ (i + 1) b in
    let l₃ = set l₂ (i + 2) c in
    let l₄ = set l₃ (i + 3) d in
    length-set l₄ (i + 4) e ∙ length-set l₃ (i + 3) d ∙ length-set l₂ (i + 2) c ∙ length-set l₁ (i + 1) b ∙ length-set l i a

pub sixth_inside :
    (l : List ℕ) (i a b c d e : ℕ)
    → i + 7 ≤ length l
    → i + 5 < length (set (set (set (set (set l i a) (i + 1) b) (i + 2) c) (i + 3) d) (i + 4) e)
sixth_inside l i a b c d e h = omega (arith, five_long l i a b c d e)

pub seventh_inside :
    (l : List ℕ) (i a b c d e f : ℕ)
    → i + 7 ≤ length l
    → i + 6 < length (set (set (set (set (set (set l i a) (i + 1) b) (i + 2) c) (i + 3) d) (i + 4) e) (i + 5) f)
seventh_inside l i a b c d e f h =
    let l₅ = set (set (set (set (set l i a) (i + 1) b) (i + 2) c) (i + 3) d) (i + 4) e in
    omega (arith, length-set l₅ (i + 5) f, five_long l i a b c d e)

pub words_stored :
    (l : List ℕ) (i : ℕ) (w : List ℕ)
    → length w ≡ 7
    → set (set (set (set (set (set (set l i (get_or w 0 0)) (i + 1) (get_or w 1 0)) (i + 2) (get_or w 2 0)) (i + 3) (get_or w 3 0))
    (i + 4) (get_or w 4 0)) (i + 5) (get_or w 5 0)) (i + 6) (get_or w 6 0)
    ≡ sets l i w
words_stored l i (a ∷ b ∷ c ∷ d ∷ e ∷ f ∷ g ∷ []) h =
    let one : i + 1 ≡ suc i = omega arith in
    let two : i + 2 ≡ suc (suc i) = omega arith in
    let three : i + 3 ≡ suc (suc (suc i)) = omega arith in
    let four : i + 4 ≡ suc (suc (suc (suc i))) = omega arith in
    let five : i + 5 ≡ suc (suc (suc (suc (suc i)))) = omega arith in
    let six : i + 6 ≡ suc (suc (suc (suc (suc (suc i))))) = omega arith in
    rw (one, two, three, four, five, six)
words_stored l i [] h = absurd (omega arith)
words_stored l i (a ∷ []) h = absurd (omega arith)
words_stored l i (a ∷ b ∷ []) h = absurd (omega arith)
words_stored l i (a ∷ b ∷ c ∷ []) h = absurd (omega arith)
words_stored l i (a ∷ b ∷ c ∷ d ∷ []) h = absurd (omega arith)
words_stored l i (a ∷ b ∷ c ∷ d ∷ e ∷ []) h = absurd (omega arith)
words_stored l i (a ∷ b ∷ c ∷ d ∷ e ∷ f ∷ []) h = absurd (omega arith)
words_stored l i (a ∷ b ∷ c ∷ d ∷ e ∷ f ∷ g ∷ x ∷ w) h = absurd (omega arith)
