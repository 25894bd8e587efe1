-- A number that was read, or none.
use Rattle.std.specs.Prelude.{◌≡◌, refl, Bool, true, false, ◌&&◌, List, [], ◌∷◌, ℕ, ◌+◌, ◌-◌, ◌*◌, ◌≤◌, ◌<◌, leb, ltb, length, get_or, take, drop}
use Rattle.std.proofs.Common.{sym, ap, ◌∙◌, le_refl, le_trans, add-one, arith, drop_of_length-le, take_all, drop-cons}
use Rattle.std.proofs.Math.Option.{Option, some, none}
use borrow.Author.Tests.{eq-eqb, ne_eqb, le-leb, lt-leb, ltb-true}
use Rattle.std.specs.Prelude.{if◌then◌else◌}
use Rattle.rules.specs.Base.{null, all}
use Rattle.rules.specs.Eval.{is_digit, digits, unsigned, number_of}
use Rattle.std.specs.Char.{is_ascii_digit}
use Rattle.std.specs.Prelude.{Some, None}
use Rattle.std.specs.Prelude as prelude

-- an option of the code as one of the rules
abbrev pub option_of : prelude.Option ℕ → Option ℕ
option_of (Some n) = some n
option_of None = none

-- the digits still to be read, with the value of those before them
unfoldable pub read_on : ℕ → List ℕ → Option ℕ
read_on n s = if all is_digit s && leb (digits n s) 4294967295 then some (digits n s) else none

-- ---- a value only grows
digits_grow : (n : ℕ) (s : List ℕ) → n ≤ digits n s
unfolding digits
digits_grow n [] = le_refl n
digits_grow n (b ∷ s) = le_trans (omega arith) (digits_grow (n * 10 + (b - 48)) s)

pub too_large_lem : (n : ℕ) (s : List ℕ) → 4294967295 < n → read_on n s ≡ none
unfolding read_on
too_large_lem n s h = go (all is_digit s)
  where
    go : (t : Bool) → (if t && leb (digits n s) 4294967295 then some (digits n s) else none) ≡ none
    go false = refl
    go true = rw (lt-leb (digits n s) 4294967295 (omega (arith, digits_grow n s)))

-- ---- a byte more
module _ (n : ℕ) (s : List ℕ) (i : ℕ) (h : i < length s) where
  cons : drop i s ≡ get_or s i 0 ∷ drop (i + 1) s
  cons = rw (add-one, drop-cons s i 0)

  pub digit_next : is_ascii_digit (get_or s i 0) ≡ true → read_on n (drop i s) ≡ read_on (n * 10 + (get_or s i 0 - 48)) (drop (i + 1) s)
  unfolding read_on all is_digit digits
  digit_next d = rw (cons, d)

  pub digit_bad : is_ascii_digit (get_or s i 0) ≡ false → read_on n (drop i s) ≡ none
  unfolding read_on all is_digit
  digit_bad d = rw (cons, d)

-- the same of a byte by its number
module _ (n : ℕ) (s : List ℕ) (i b : ℕ) (h : i < length s) (e : b ≡ get_or s i 0) where
  cons_byte : drop i s ≡ b ∷ drop (i + 1) s
  cons_byte = rw (add-one, e, drop-cons s i 0)

  pub digit_low : b < 48 → read_on n (drop i s) ≡ none
  unfolding read_on all is_digit
  digit_low l = rw (cons_byte, lt-leb 48 b l)

  pub digit_high : 48 ≤ b → ltb 57 b ≡ true → read_on n (drop i s) ≡ none
  unfolding read_on all is_digit
  digit_high l g = rw (cons_byte, le-leb 48 b l, lt-leb b 57 (ltb-true 57 b g))

pub digits_end : (n : ℕ) (s : List ℕ) (i : ℕ) → length s ≤ i → n ≤ 4294967295 → read_on n (drop i s) ≡ some n
unfolding read_on all digits
digits_end n s i h l = rw (drop_of_length-le s h, le-leb n 4294967295 l)

-- ---- the whole text
pub unsigned_empty : (s : List ℕ) → length s ≡ 0 → none ≡ unsigned s
unfolding unsigned null
unsigned_empty [] e = refl
unsigned_empty (b ∷ s) e = absurd (omega arith)

pub unsigned_some : (s : List ℕ) → 0 < length s → read_on 0 s ≡ unsigned s
unfolding unsigned null read_on
unsigned_some [] h = absurd (omega arith)
unsigned_some (b ∷ s) h = refl

-- what is not read on from a place is not read at all
pub unsigned_bad : (n : ℕ) (s : List ℕ) (i : ℕ) → i < length s → read_on 0 s ≡ read_on n (drop i s) → read_on n (drop i s) ≡ none → none ≡ unsigned s
unsigned_bad n s i h e z = sym (sym (unsigned_some s (omega arith)) ∙ e ∙ z)

pub number_empty : (s : List ℕ) → length s ≡ 0 → none ≡ number_of s
unfolding number_of
number_empty [] e = refl
number_empty (b ∷ s) e = absurd (omega arith)

pub number_short : (s : List ℕ) → length s < 1 → unsigned s ≡ number_of s
unfolding number_of unsigned null
number_short [] h = refl
number_short (b ∷ s) h = absurd (omega arith)

pub number_plus : (s : List ℕ) → get_or s 0 0 ≡ 43 → unsigned (take (length s - 1) (drop 1 s)) ≡ number_of s
unfolding number_of
number_plus [] e = absurd (omega arith)
number_plus (b ∷ s) e = rw (eq-eqb b 43 e) (ap unsigned (take_all (length (b ∷ s) - 1) s (omega arith)))

pub number_plain : (s : List ℕ) → (get_or s 0 0 ≡ 43 → ⊥) → unsigned s ≡ number_of s
unfolding number_of unsigned null
number_plain [] e = refl
number_plain (b ∷ s) e = rw (ne_eqb b 43 e)
