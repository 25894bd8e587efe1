-- The tests of alphabet and sheet, as loops over what is left.
use mathlib.Core.Path.{◌≡◌, sym, ◌∙◌}
use mathlib.Core.Bool.{Bool, true, false, not, false≢true}
use mathlib.Core.List.{List, ◌∷◌, map}
use Prim.Native.Nat.{ℕ, suc, ◌+◌, ◌-◌, ◌≤◌, ◌<◌}
use native.Mathlib.Numerals.{add-one}
use native.Mathlib.Omega.{arith}
use lib.Dec.{leb}
use lib.ListN.{length, get_or, take, drop, length-drop, drop_of_length-le}
use lib.Seq.{drop-cons, take_all}
use borrow.Author.Tests.{le-leb, lt-leb, eq-eqb, ne_eqb, lt-ltb, le-ltb}
use Rattle.wire.specs.Wire.{entry_of}
use Rattle.rules.specs.Base.{all, contains, numbers}
use Rattle.rules.specs.Sheet.{argument_count, sheet_fault, arguments}
use Rattle.rules.proofs.Formats.{counted}
use Rattle.rules_short.specs.Short.{distinct, alphabet_good, argument_legal, arguments_legal, sheet_legal}
use Rattle.split_sheet.specs.Checked.{HasArgument}
use Rattle.rules.specs.Reported.{tested}
use Rattle.rules.specs.declared.Refusal.{Refusal}
use Rattle.rules.proofs.ReportedLaws.{numbered}
use Rattle.std.specs.Prelude.{Result, Ok, Err}
use Rattle.std.specs.Result.{is_err}
use Rattle.std.specs.List.{list_all}
use Rattle.short_check.proofs.Letters.{all_in}
use Rattle.short_check.specs.Tests.{input_fault}

-- ---- the alphabet

module _ (al : List ℕ) (i : ℕ) (same : distinct al ≡ distinct (drop i al)) (h : i < length al) (rest : List ℕ) (part : rest ≡ drop (i + 1) al)
    (t : Bool) (test : t ≡ contains rest (get_or al i 0)) where
  twice : t ≡ contains (drop (suc i) al) (get_or al i 0)
  twice = test ∙ rw (part, add-one i)

  pub byte_twice : t ≡ true → false ≡ distinct al
  unfolding distinct
  byte_twice e = sym (same ∙ rw (drop-cons al i 0 h, ← twice, e))

  pub byte_once : t ≡ false → distinct al ≡ distinct (drop (i + 1) al)
  unfolding distinct
  byte_once e = same ∙ rw (drop-cons al i 0 h, ← twice, e, add-one i)

pub rest_is : (al : List ℕ) (i : ℕ) → take (length al - i) (drop i al) ≡ drop i al
rest_is al i = take_all (length al - i) (drop i al) (omega (arith, length-drop i al))

pub all_once : (al : List ℕ) (i : ℕ) → distinct al ≡ distinct (drop i al) → length al ≤ i → true ≡ distinct al
unfolding distinct
all_once al i same h = sym (same ∙ rw (drop_of_length-le al {i = i} h))

module _ (al : List ℕ) (t : Bool) where
  pub no_letter : length al < 1 → t ≡ leb 1 (length al) → t ≡ alphabet_good al
  unfolding alphabet_good
  no_letter h e = e ∙ rw (lt-leb 1 (length al) h)

  pub many_letters : 1 ≤ length al → 8 < length al → t ≡ leb (length al) 8 → t ≡ alphabet_good al
  unfolding alphabet_good
  many_letters h l e = e ∙ rw (le-leb 1 (length al) h, lt-leb (length al) 8 l)

  pub letters_good : 1 ≤ length al → length al ≤ 8 → t ≡ distinct al → t ≡ alphabet_good al
  unfolding alphabet_good
  letters_good h l e = rw (le-leb 1 (length al) h, le-leb (length al) 8 l) e

-- ---- an argument

module _ (al os : List ℕ) where
  pub argument_long : 4 < length os → leb (length os) 4 ≡ argument_legal al os
  unfolding argument_legal
  argument_long h = rw (lt-leb (length os) 4 h)

  pub argument_letters : (r : Bool) → length os ≤ 4 → r ≡ list_all (contains al) os → r ≡ argument_legal al os
  unfolding argument_legal
  argument_letters r h e = e ∙ rw (le-leb (length os) 4 h) (all_in al os)

-- ---- the sheet

-- arguments from k on are left
pub record ArgumentsLeft (al s : List ℕ) (n k : ℕ) : Type 0 where
  pub same : all (argument_legal al) (arguments s) ≡ all (argument_legal al) (map (entry_of 2 (argument_count s) s) (numbers (n - k) k))

-- how the check of the sheet ended
module _ (s : List ℕ) (b : Bool) where
  pub whole : (r : Result (Unit {0}) Refusal) → tested r ≡ sheet_fault s → b ≡ is_err r → b ≡ false → sheet_fault s ≡ 0
  whole (Ok u) e i h = sym e
  whole (Err x) e i h = absurd (false≢true (sym h ∙ i))

  damaged : (r : Result (Unit {0}) Refusal) → tested r ≡ sheet_fault s → b ≡ is_err r → b ≡ true → sheet_fault s ≡ 0 → ⊥
  damaged (Ok u) e i h = absurd (false≢true (sym i ∙ h))
  damaged (Err x) e i h = λ z. numbered x (e ∙ z)

module _ (al s : List ℕ) (b : Bool) (r : Result (Unit {0}) Refusal) (e : tested r ≡ sheet_fault s) (i : b ≡ is_err r) where
  pub sheet_damaged : b ≡ true → false ≡ sheet_legal al s
  unfolding sheet_legal
  sheet_damaged h = rw (ne_eqb (sheet_fault s) 0 (damaged s b r e i h))

  module _ (made : b ≡ false) (n : ℕ) (count : n ≡ argument_count s) where
    good : sheet_fault s ≡ 0
    good = whole s b r e i made

    pub has_argument : (k : ℕ) → k < n → HasArgument s k
    has_argument k h = record { made = good; below = omega arith }

    long : length (arguments s) ≡ n
    unfolding arguments
    long = counted (entry_of 2 (argument_count s) s) (argument_count s) ∙ sym count

    pub sheet_many : 3 < n → false ≡ sheet_legal al s
    unfolding sheet_legal arguments_legal
    sheet_many h = rw (eq-eqb (sheet_fault s) 0 good, long, lt-leb n 3 h)

    pub left_first : ArgumentsLeft al s n 0
    unfolding arguments
    left_first =
        let size : n - 0 ≡ argument_count s = omega arith in
        record { same = rw size }

    module _ (few : n ≤ 3) (k : ℕ) (left : ArgumentsLeft al s n k) where
      legal : sheet_legal al s ≡ all (argument_legal al) (arguments s)
      unfolding sheet_legal arguments_legal
      legal = rw (eq-eqb (sheet_fault s) 0 good, long, le-leb n 3 few)

      module _ (t : Bool) (os : List ℕ) (test : t ≡ argument_legal al os) (part : os ≡ entry_of 2 (argument_count s) s k) (h : k < n) where
        next : map (entry_of 2 (argument_count s) s) (numbers (n - k) k) ≡ os ∷ map (entry_of 2 (argument_count s) s) (numbers (n - (k + 1)) (k + 1))
        unfolding numbers
        next =
            let more : n - k ≡ suc (n - (k + 1)) = omega arith in
            rw (more, part, add-one k)

        pub argument_other : t ≡ false → false ≡ sheet_legal al s
        unfolding all
        argument_other e = sym (legal ∙ left.same ∙ rw (next, ← test, e))

        pub argument_good : t ≡ true → ArgumentsLeft al s n (k + 1)
        unfolding all
        argument_good e = record { same = left.same ∙ rw (next, ← test, e) }

      pub arguments_good : n ≤ k → true ≡ sheet_legal al s
      unfolding all numbers
      arguments_good h =
          let none : n - k ≡ 0 = omega arith in
          sym (legal ∙ left.same ∙ rw none)

-- ---- the order of the refusals

module _ (al s : List ℕ) (n : ℕ) (a : Bool) (e : a ≡ alphabet_good al) where
  pub alphabet_bad : not a ≡ true → 16 ≡ input_fault al s n
  unfolding input_fault
  alphabet_bad h = rw (← e, h)

  module _ (good : not a ≡ false) (t : Bool) (f : t ≡ sheet_legal al s) where
    pub sheet_other : not t ≡ true → 17 ≡ input_fault al s n
    unfolding input_fault
    sheet_other h = rw (← e, good, ← f, h)

    pub output_short : not t ≡ false → n < 22 → 19 ≡ input_fault al s n
    unfolding input_fault
    output_short h l = rw (← e, good, ← f, h, lt-ltb n 22 l)

    pub input_good : not t ≡ false → 22 ≤ n → 0 ≡ input_fault al s n
    unfolding input_fault
    input_good h l = rw (← e, good, ← f, h, le-ltb n 22 l)
