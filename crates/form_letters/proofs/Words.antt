-- Letters appended to the words of a slice, record by record.
use mathlib.Core.Path.{◌≡◌, refl, sym, ap, ◌∙◌}
use mathlib.Core.Bool.{Bool, true, false, not}
use mathlib.Core.List.{List, [], ◌∷◌, ◌++◌, append_assoc, append-nil}
use mathlib.Core.Option.{Option, some, none}
use Prim.Native.Nat.{ℕ, zero, suc, ◌+◌, ◌-◌, ◌≤◌, ◌<◌}
use native.Mathlib.Nat.{add-zero, add-suc, suc-add, zero-add}
use native.Mathlib.Numerals.{add-one}
use native.Mathlib.Omega.{arith}
use lib.Bits.{bit_and}
use lib.Dec.{eqb}
use lib.ListN.{length, get_or, take, drop, set, replicate, length-append, length-replicate, drop_of_length-le}
use lib.Seq.{sets, sets-eq, length-sets}
use Rattle.std.specs.Prelude.{if◌then◌else◌}
use Rattle.rules.specs.Codes.{place_code}
use Rattle.rules.specs.Form.{Node, Name, name_count, read_form, name_bytes, one_character}
use Rattle.rules.specs.Tree.{short_of}
use Rattle.rules.proofs.Acceptance.{lookup_some}
use Rattle.rules.proofs.Places.{drop_below}
use Rattle.form_layout.specs.Layout.{GoodNames}
use Rattle.form_layout.proofs.Sizes.{names_length, names_few}
use Rattle.form_codes.specs.Codes.{code_of, CodedNames}
use Rattle.form_codes.proofs.NameCodes.{code_at}
use Rattle.form_letters.specs.Letters.{letters_from, letters_by_name, WroteWords, WroteLetters, letter_list, letter_if, Appended}
use Rattle.form_letters.specs.Classes.{names_record, bits, class_of, Classed}

-- ---- one letter

module _ (o : List ℕ) (n : ℕ) (wanted : Bool) (code : ℕ) where
  pub unwanted : wanted ≡ false → Appended o n (letter_if wanted code) o n
  unfolding letter_if
  unwanted e = rw e (record { words = refl; count = omega arith })

  pub letterless : wanted ≡ true → code ≡ 0 → Appended o n (letter_if wanted code) o n
  unfolding letter_if letter_list
  letterless e z = rw (e, z) (record { words = refl; count = omega arith })

  pub one_letter : wanted ≡ true → (code ≡ 0 → ⊥) → Appended o n (letter_if wanted code) (set o n (code - 1)) (n + 1)
  unfolding letter_if letter_list
  one_letter e z =
      let s : code ≡ suc (code - 1) = omega arith in
      let w : letter_if wanted code ≡ (code - 1) ∷ [] = rw e (ap letter_list s) in
      rw w (record { words = refl; count = omega arith })

letter_few : (wanted : Bool) (code : ℕ) → length (letter_if wanted code) ≤ 1
unfolding letter_if letter_list
letter_few true zero = omega arith
letter_few true (suc c) = omega arith
letter_few false code = omega arith

-- ---- a record's class

flag_known : (a b : Bool) → not (eqb (bit_and (bits a b) 1) 0) ≡ a
unfolding bits
flag_known true true = refl
flag_known true false = refl
flag_known false true = refl
flag_known false false = refl

argument_known : (a b : Bool) → not (eqb (bit_and (bits a b) 2) 0) ≡ b
unfolding bits
argument_known true true = refl
argument_known true false = refl
argument_known false true = refl
argument_known false false = refl

module _ (xs : List Node) (count : ℕ) (t : List ℕ) (z : Classed xs count t) (k : ℕ) (h : k < count) (class : ℕ) (e : class ≡ get_or t k 0) where
  pub flag_wanted : not (eqb (bit_and class 1) 0) ≡ names_record xs 1 k
  unfolding class_of
  flag_wanted = rw (e, z.at k h) (flag_known (names_record xs 1 k) (names_record xs 2 k))

  pub argument_wanted : not (eqb (bit_and class 2) 0) ≡ names_record xs 2 k
  unfolding class_of
  argument_wanted = rw (e, z.at k h) (argument_known (names_record xs 1 k) (names_record xs 2 k))

-- ---- a record's code

short_letter : (area : List ℕ) (x : Name) → letter_list (code_of area x) ≡ short_of area x
unfolding code_of short_of letter_list
short_letter area x = go (eqb x.type 0) (one_character (name_bytes area x))
  where
    go : (t : Bool) (o : Option ℕ)
        → letter_list (if t then place_code o else 0) ≡ (if t then (elim o [ none ↦ [] | some c ↦ c ∷ [] ]) else [])
    go true none = refl
    go true (some c) = refl
    go false o = refl

-- ---- all records

sets_append : (v w o : List ℕ) (i : ℕ) → sets o i (v ++ w) ≡ sets (sets o i v) (i + length v) w
sets_append [] w o i = rw (add-zero i)
sets_append (x ∷ v) w o i = sets_append v w (set o i x) (suc i) ∙ rw (suc-add i (length v), ← add-suc i (length v))

-- the letters of the records below k are written
pub record Written (b : List ℕ) (kind : ℕ) (o₀ o : List ℕ) (n k : ℕ) : Type 0 where
  pub done : List ℕ
  pub words : o ≡ sets o₀ 0 done
  pub count : n ≡ length done
  pub few : n ≤ k
  pub same : done ++ letters_from (read_form b).area (names_record (read_form b).nodes kind) k (drop k (read_form b).names) ≡ letters_by_name (read_form b) kind

module _ (b : List ℕ) (kind : ℕ) (o₀ : List ℕ) where
  pub written_first : Written b kind o₀ o₀ 0 0
  written_first = record { done = []; words = refl; count = refl; few = omega arith; same = refl }

  module _ (o : List ℕ) (n k m : ℕ) (z : Written b kind o₀ o n k) (em : m ≡ name_count b) where
    module _ (h : k < m) (codes : List ℕ) (coded : CodedNames b codes) (code : ℕ) (ec : code ≡ get_or codes k 0) (wanted : Bool) (ew : wanted ≡ names_record (read_form b).nodes kind k) where
      letters_step :
          z.done ++ (letter_if wanted code ++ letters_from (read_form b).area (names_record (read_form b).nodes kind) (suc k) (drop (suc k) (read_form b).names))
          ≡ letters_by_name (read_form b) kind
      unfolding letters_from letter_if
      letters_step =
          let f = read_form b in
          let (x, s) = lookup_some f.names k (omega (arith, names_length b)) in
          let e : code ≡ code_of f.area x = ec ∙ code_at b codes k x coded (omega arith) s in
          rw (ew, e, short_letter f.area x) (rw (drop_below f.names k x s) at z.same)

      pub written_next : (o' : List ℕ) (r : ℕ) → Appended o n (letter_if wanted code) o' r → Written b kind o₀ o' r (k + 1)
      written_next o' r a =
          let v = letter_if wanted code in
          let zero_first : 0 + length z.done ≡ n = zero-add (length z.done) ∙ sym z.count in
          record {
            done = z.done ++ v;
            words = a.words ∙ rw (z.words, sets_append z.done v o₀ 0, zero_first);
            count = rw (length-append z.done v) (omega (arith, z.count, a.count));
            few = omega (arith, z.few, a.count, letter_few wanted code);
            same = rw (add-one k, append_assoc z.done v _) letters_step;
          }

    pub written_last : m ≤ k → WroteWords o₀ (letters_by_name (read_form b) kind) o n
    unfolding letters_from
    written_last h =
        let all : z.done ≡ letters_by_name (read_form b) kind =
        sym (append-nil z.done) ∙ rw (drop_of_length-le (read_form b).names {i = k} (omega (arith, names_length b))) at z.same in
        record { words = rw (← all) z.words; count = rw (← all) z.count }

-- ---- how many there are
short_few : (a : List ℕ) (m : Name) → length (short_of a m) ≤ 1
unfolding short_of
short_few a m = go (eqb m.type 0) refl (one_character (name_bytes a m)) refl
  where
    go : (t : Bool) → eqb m.type 0 ≡ t → (o : Option ℕ) → one_character (name_bytes a m) ≡ o → length (short_of a m) ≤ 1
    go false e o h = rw e (omega arith)
    go true e none h = rw (e, h, short_of) (omega arith)
    go true e (some c) h = rw (e, h, short_of) (omega arith)

letters_few : (a : List ℕ) (wanted : ℕ → Bool) (k : ℕ) (ms : List Name) → length (letters_from a wanted k ms) ≤ length ms
unfolding letters_from
letters_few a wanted k [] = omega arith
letters_few a wanted k (m ∷ ms) = go (letters_few a wanted (suc k) ms) (wanted k) refl
  where
    go : length (letters_from a wanted (suc k) ms) ≤ length ms → (t : Bool) → wanted k ≡ t → length (letters_from a wanted k (m ∷ ms)) ≤ suc (length ms)
    go rest true e = rw e (omega (arith, length-append (short_of a m) (letters_from a wanted (suc k) ms), short_few a m, rest))
    go rest false e = rw e (omega (arith, rest))

take_front : (w l : List ℕ) → take (length w) (w ++ l) ≡ w
take_front [] l = refl
take_front (x ∷ w) l = ap {B = List ℕ} (λ r. x ∷ r) (take_front w l)

take_set : (w o : List ℕ) → length w ≤ length o → take (length w) (sets o 0 w) ≡ w
take_set w o h = ap (λ (l : List ℕ). take (length w) l) (sets-eq w o 0 (omega (arith, h))) ∙ take_front w _

-- a buffer of 128 words that holds the letters of a kind
module _ (b : List ℕ) (kind : ℕ) (o p : List ℕ) (n : ℕ) (g : GoodNames b) (z : o ≡ replicate 128 0)
    (w : WroteLetters b kind o p n) where
  long : length o ≡ 128
  long = ap length z ∙ length-replicate {A = ℕ} 128 0

  few : length (letters_by_name (read_form b) kind) ≤ 128
  few = omega (arith, letters_few (read_form b).area (names_record (read_form b).nodes kind) 0 (read_form b).names, names_length b, names_few b g)

  pub letters_fit : n ≤ length p
  letters_fit =
      omega (arith, w.count, few, long, ap length w.words ∙ length-sets o 0 (letters_by_name (read_form b) kind))

  pub letters_taken : take n p ≡ letters_by_name (read_form b) kind
  letters_taken =
      let l = letters_by_name (read_form b) kind in
      ap (λ (k : ℕ). take k p) w.count
      ∙ ap (λ (x : List ℕ). take (length l) x) w.words
      ∙ take_set l o (omega (arith, few, long))
