-- The set: each test holds exactly if its fact does. And a legal sheet is told by its arguments, and fits into 22 bytes.
use mathlib.Core.Bool.{Bool, true, false, not, ◌&&◌, ◌||◌, or-true, true≢false, false≢true}
use mathlib.Core.List.{List, [], ◌∷◌, flatten}
use mathlib.Core.Path.{◌≡◌, refl, sym, ap, ◌∙◌}
use Prim.Native.Nat.{ℕ, zero, suc, ◌+◌, ◌-◌, ◌*◌, ◌≤◌, ◌<◌}
use native.Mathlib.Omega.{arith}
use lib.Dec.{leb, eqb}
use lib.ListN.{length, get_or, length-append, length-drop}
use borrow.Author.Tests.{leb-true, le-leb, eqb-true, eq-eqb, not-true}
use Rattle.wire.specs.Wire.{area_start, area, entry_of}
use Rattle.rules.specs.Base.{all, contains}
use Rattle.rules.specs.Sheet.{argument_count, sheet_area, sheet_fault, arguments}
use Rattle.rules.specs.Encode.{encode_sheet}
use Rattle.rules.specs.Demands.{All}
use Rattle.rules.proofs.Acceptance.{both, and-true, all_true, All-map}
use Rattle.rules.proofs.Formats.{counted, arguments_encode, arguments_area, encode_arguments}
use Rattle.rules.proofs.SheetLaws.{sheet_made, made_sheet}
use Rattle.rules_short.specs.Short.{distinct, alphabet_good, argument_legal, arguments_legal, sheet_legal}
use Rattle.rules_short.specs.ShortAnswered.{AlphabetMade, Letter, ArgumentShort, ArgumentsShort, SheetShort, ToldByArguments}

-- ---- bytes of the alphabet
pub contains_letter : (al : List ℕ) (b : ℕ) → contains al b ≡ true → Letter al b
unfolding contains
contains_letter [] b e = absurd (false≢true e)
contains_letter (x ∷ al) b e = go (eqb x b) refl e (contains_letter al b)
  where
    go : (t : Bool) → eqb x b ≡ t → t || contains al b ≡ true → (contains al b ≡ true → Letter al b) → Letter (x ∷ al) b
    go true f h more = record { place = 0; below = omega arith; here = eqb-true x b f }
    go false f h more = let l = more h in record { place = suc l.place; below = omega (arith, l.below); here = l.here }

contains_at : (al : List ℕ) (b k : ℕ) → k < length al → get_or al k 0 ≡ b → contains al b ≡ true
unfolding contains
contains_at [] b k h e = absurd (omega arith)
contains_at (x ∷ al) b zero h e = rw (eq-eqb x b e)
contains_at (x ∷ al) b (suc k) h e = rw (contains_at al b k (omega arith) e) (or-true (eqb x b))

pub letter_contains : (al : List ℕ) (b : ℕ) → Letter al b → contains al b ≡ true
letter_contains al b l = contains_at al b l.place l.below l.here

-- ---- the alphabet
abbrev Apart : List ℕ → Type 0
Apart al = (i j : ℕ) → i < length al → j < length al → get_or al i 0 ≡ get_or al j 0 → i ≡ j

twice : (x : ℕ) (al : List ℕ) → not (contains al x) ≡ true → contains al x ≡ true → ⊥
twice x al e f = true≢false (sym f ∙ not-true (contains al x) e)

distinct_apart : (al : List ℕ) → distinct al ≡ true → Apart al
unfolding distinct
distinct_apart [] e i j p q f = absurd (omega arith)
distinct_apart (x ∷ al) e zero zero p q f = refl
distinct_apart (x ∷ al) e zero (suc j) p q f =
    absurd (twice x al (and-true (not (contains al x)) (distinct al) e).0 (contains_at al x j (omega arith) (sym f)))
distinct_apart (x ∷ al) e (suc i) zero p q f =
    absurd (twice x al (and-true (not (contains al x)) (distinct al) e).0 (contains_at al x i (omega arith) f))
distinct_apart (x ∷ al) e (suc i) (suc j) p q f =
    ap suc (distinct_apart al (and-true (not (contains al x)) (distinct al) e).1 i j (omega arith) (omega arith) f)

apart_distinct : (al : List ℕ) → Apart al → distinct al ≡ true
unfolding distinct
apart_distinct [] h = refl
apart_distinct (x ∷ al) h = both (go (contains al x) refl) (apart_distinct al later)
  where
    later : Apart al
    later i j p q f = let same = h (suc i) (suc j) (omega arith) (omega arith) f in omega arith

    go : (t : Bool) → contains al x ≡ t → not t ≡ true
    go true e =
        let l = contains_letter al x e in
        absurd (omega (arith, h 0 (suc l.place) (omega arith) (omega (arith, l.below)) (sym l.here)))
    go false e = refl

pub good_alphabet : (al : List ℕ) → alphabet_good al ≡ true → AlphabetMade al
unfolding alphabet_good
good_alphabet al e =
    let (sized, apart) = and-true (leb 1 (length al) && leb (length al) 8) (distinct al) e in
    let (least, most) = and-true (leb 1 (length al)) (leb (length al) 8) sized in
    record { least = leb-true 1 (length al) least; most = leb-true (length al) 8 most; distinct = distinct_apart al apart }

pub alphabet_good_lem : (al : List ℕ) → AlphabetMade al → alphabet_good al ≡ true
unfolding alphabet_good
alphabet_good_lem al h = both (both (le-leb 1 (length al) h.least) (le-leb (length al) 8 h.most)) (apart_distinct al h.distinct)

-- ---- arguments and sheets
true_all : {A : Type 0} (p : A → Bool) (l : List A) → All (λ (x : A). p x ≡ true) l → all p l ≡ true
unfolding all
true_all p [] h = refl
true_all p (x ∷ l) h = both h.0 (true_all p l h.1)

module _ (al : List ℕ) where
  legal_argument : (os : List ℕ) → argument_legal al os ≡ true → ArgumentShort al os
  unfolding argument_legal
  legal_argument os e =
      let (size, letters) = and-true (leb (length os) 4) (all (contains al) os) e in
      record {
        size = leb-true (length os) 4 size;
        letters = All-map (λ b. contains al b ≡ true) (Letter al) (contains_letter al) os (all_true (contains al) os letters);
      }

  argument_legal_lem : (os : List ℕ) → ArgumentShort al os → argument_legal al os ≡ true
  unfolding argument_legal
  argument_legal_lem os h =
      both (le-leb (length os) 4 h.size)
      (true_all (contains al) os (All-map (Letter al) (λ b. contains al b ≡ true) (letter_contains al) os h.letters))

  legal_arguments : (args : List (List ℕ)) → arguments_legal al args ≡ true → ArgumentsShort al args
  unfolding arguments_legal
  legal_arguments args e =
      let (count, each) = and-true (leb (length args) 3) (all (argument_legal al) args) e in
      record {
        count = leb-true (length args) 3 count;
        each = All-map (λ os. argument_legal al os ≡ true) (ArgumentShort al) legal_argument args (all_true (argument_legal al) args each);
      }

  arguments_legal_lem : (args : List (List ℕ)) → ArgumentsShort al args → arguments_legal al args ≡ true
  unfolding arguments_legal
  arguments_legal_lem args h =
      both (le-leb (length args) 3 h.count)
      (true_all (argument_legal al) args (All-map (ArgumentShort al) (λ os. argument_legal al os ≡ true) argument_legal_lem args h.each))

  pub legal_sheet : (s : List ℕ) → sheet_legal al s ≡ true → SheetShort al s
  unfolding sheet_legal
  legal_sheet s e =
      let (fault, short) = and-true (eqb (sheet_fault s) 0) (arguments_legal al (arguments s)) e in
      record { made = sheet_made s (eqb-true (sheet_fault s) 0 fault); short = legal_arguments (arguments s) short }

  pub sheet_legal_lem : (s : List ℕ) → SheetShort al s → sheet_legal al s ≡ true
  unfolding sheet_legal
  sheet_legal_lem s h = both (eq-eqb (sheet_fault s) 0 (made_sheet s h.made)) (arguments_legal_lem (arguments s) h.short)

  short_size : (args : List (List ℕ)) → All (ArgumentShort al) args → length (flatten args) ≤ 4 * length args
  unfolding flatten
  short_size [] h = omega arith
  short_size (os ∷ args) h = omega (arith, length-append os (flatten args), h.0.size, short_size args h.1)

  -- 2 + 2 × 4 + 12
  pub legal_length : (s : List ℕ) → SheetShort al s → length s ≤ 22
  unfolding arguments sheet_area area area_start
  legal_length s h =
      let n = argument_count s in
      let args = arguments s in
      let bytes : length (flatten args) ≡ length s - (2 + 2 * (n + 1)) =
      ap length (arguments_area s (made_sheet s h.made)) ∙ length-drop (2 + 2 * (n + 1)) s in
      omega (arith, counted (entry_of 2 n s) n, h.made.offsets, h.short.count, short_size args h.short.each)

  -- what is written of short arguments
  module _ (args : List (List ℕ)) (h : ArgumentsShort al args) where
    encoded : (sheet_fault (encode_sheet args) ≡ 0) × (arguments (encode_sheet args) ≡ args)
    encoded = arguments_encode args (omega (arith, h.count)) (omega (arith, h.count, short_size args h.each))

    pub encoded_arguments : arguments (encode_sheet args) ≡ args
    encoded_arguments = encoded.1

    pub encoded_legal : SheetShort al (encode_sheet args)
    encoded_legal = record { made = sheet_made (encode_sheet args) encoded.0; short = rw encoded.1 h }

pub told_by_arguments : ToldByArguments
told_by_arguments s t p q hs ht e =
    sym (encode_arguments s p (made_sheet s hs)) ∙ ap encode_sheet e ∙ encode_arguments t q (made_sheet t ht)
