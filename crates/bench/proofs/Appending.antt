-- Text written behind text: bytes, numbers, places, the first line, the words.
use mathlib.Core.List.{List, [], ◌∷◌, ◌++◌, append_assoc, append-nil}
use mathlib.Core.Path.{◌≡◌, refl, sym, ◌∙◌, ap}
use Prim.Native.Nat.{ℕ, ◌+◌, ◌-◌, ◌*◌, ◌^◌, ◌≤◌, ◌<◌}
use native.Mathlib.Omega.{arith}
use native.Mathlib.Numerals.{add-one}
use lib.ListN.{length, take, drop, get_or, length-append}
use lib.Seq.{take-suc, take_all, drop-drop}
use borrow.Rule.Slice.PartMut.{put_mid, same_len_mid, mid_len}
use Rattle.std.proofs.lemmas.Slice.{take-put_mid, drop-put_mid}
use Rattle.io.specs.Counts.{IsPrefixLen}
use Rattle.io.specs.Digits.{last_digits, IsDigitCount}
use Rattle.rules.specs.Base.{concat_map}
use Rattle.rules.specs.Bench.{decimal, place_text, word_line}
use Rattle.rules.specs.Codes.{place_of}
use Rattle.rules.proofs.CodeLaws.{place_some}
use Rattle.rules.proofs.ConcatLaws.{concat_more}
use Rattle.bench.specs.Text.{Appends, line_text}
use Rattle.bench.proofs.Decimal.{digits_decimal, ten_digits}

-- lists that are alike from n on are alike further on
drop_more : (k n : ℕ) (l m : List ℕ) → drop n l ≡ drop n m → drop (n + k) l ≡ drop (n + k) m
drop_more k n l m e = sym (drop-drop k n l) ∙ ap (drop k) e ∙ drop-drop k n m

-- s stands where as many bytes were
pub copied :
    (o : List ℕ) (at : ℕ) (s : List ℕ)
    → at + length s ≤ length o
    → (x : List ℕ)
    → x ≡ s
    → Appends o at (put_mid at (at + length s - at) o x) (at + length s) s
copied o at s fits x e =
    let long : length x ≡ length s = ap length e in
    record {
      text = take-put_mid _ _ o x (at + length s) (omega arith) (omega arith) ∙ ap (λ (t : List ℕ). take at o ++ t) e;
      rest = drop-put_mid _ _ o x (at + length s) (omega arith) (omega arith) (omega arith);
      size = refl;
      inside = omega (arith, same_len_mid at (at + length s - at) o x (omega (arith, mid_len at (at + length s) o fits)));
    }

-- ---- text behind text
module _ (o : List ℕ) (at : ℕ) where
  pub appends_none : at ≤ length o → Appends o at o at []
  appends_none h = record { text = sym (append-nil (take at o)); rest = refl; size = omega arith; inside = h }

  pub appends_more :
      (o₁ : List ℕ) (e₁ : ℕ) (p : List ℕ)
      → Appends o at o₁ e₁ p
      → (o₂ : List ℕ) (e₂ : ℕ) (q : List ℕ)
      → Appends o₁ e₁ o₂ e₂ q
      → Appends o at o₂ e₂ (p ++ q)
  appends_more o₁ e₁ p g o₂ e₂ q h = record {
    text = h.text ∙ ap (λ (t : List ℕ). t ++ q) g.text ∙ append_assoc (take at o) p q;
    rest = h.rest ∙ rw h.size (drop_more (length q) e₁ o₁ o g.rest);
    size = omega (arith, g.size, h.size, length-append p q);
    inside = h.inside;
  }

-- ---- a number
module _ (n w k : ℕ) (ds : List ℕ) (e : w ≡ n) (small : n < 2 ^ 32) (count : IsPrefixLen k ds) (few : IsDigitCount 10 1 w k) where
  size_few : length (take k ds) ≤ 10
  size_few = omega (arith, ten_digits w k few (omega arith), count.1)

  pub number_fits : (o : List ℕ) (at : ℕ) → at + 10 ≤ length o → at + length (take k ds) ≤ length o
  number_fits o at h = omega (arith, size_few)

  pub number_appends : take k ds ≡ last_digits 10 k w → (o : List ℕ) (at : ℕ) (o' : List ℕ) (r : ℕ) → Appends o at o' r (take k ds) → Appends o at o' r (decimal n) × (r ≤ at + 10)
  number_appends same o at o' r g =
      let d : take k ds ≡ decimal n = same ∙ digits_decimal w k few ∙ ap decimal e in
      (rw d at g, omega (arith, size_few, g.size))

-- ---- a place
module _ (o : List ℕ) (at : ℕ) (o' : List ℕ) (r place : ℕ) where
  pub dash_appends : place ≡ 0 → Appends o at o' r (45 ∷ []) → Appends o at o' r (place_text (place_of place)) × (r ≤ at + 10)
  unfolding place_text place_of
  dash_appends e g = (rw e g, omega (arith, g.size))

  pub place_appends : (place ≡ 0 → ⊥) → Appends o at o' r (decimal (place - 1)) × (r ≤ at + 10) → Appends o at o' r (place_text (place_of place)) × (r ≤ at + 10)
  unfolding place_text place_of
  place_appends e g = (rw (place_some place e) g.0, g.1)

-- ---- the first line
pub labelled :
    (o : List ℕ) (at : ℕ) (o₁ : List ℕ) (e₁ : ℕ) (label : List ℕ)
    → 7 ≡ length label
    → Appends o at o₁ e₁ label
    → (o₂ : List ℕ) (e₂ n : ℕ)
    → Appends o₁ e₁ o₂ e₂ (decimal n) × (e₂ ≤ e₁ + 10)
    → Appends o at o₂ e₂ (label ++ decimal n) × (e₂ ≤ at + 17)
labelled o at o₁ e₁ label l g o₂ e₂ n h =
    (appends_more o at o₁ e₁ label g o₂ e₂ (decimal n) h.0, omega (arith, g.size, h.1))

module _ (number place tries words : ℕ) (o o₁ : List ℕ) (e₁ : ℕ) where
  pub line_appends :
      Appends o 0 o₁ e₁ ((97 ∷ 110 ∷ 115 ∷ 119 ∷ 101 ∷ 114 ∷ 32 ∷ []) ++ decimal number) × (e₁ ≤ 0 + 17)
      → (o₂ : List ℕ) (e₂ : ℕ)
      → Appends o₁ e₁ o₂ e₂ (32 ∷ 112 ∷ 108 ∷ 97 ∷ 99 ∷ 101 ∷ 32 ∷ [])
      → (o₃ : List ℕ) (e₃ : ℕ)
      → Appends o₂ e₂ o₃ e₃ (place_text (place_of place)) × (e₃ ≤ e₂ + 10)
      → (o₄ : List ℕ) (e₄ : ℕ)
      → Appends o₃ e₃ o₄ e₄ ((32 ∷ 116 ∷ 114 ∷ 105 ∷ 101 ∷ 115 ∷ 32 ∷ []) ++ decimal tries) × (e₄ ≤ e₃ + 17)
      → (o₅ : List ℕ) (e₅ : ℕ)
      → Appends o₄ e₄ o₅ e₅ ((32 ∷ 119 ∷ 111 ∷ 114 ∷ 100 ∷ 115 ∷ 32 ∷ []) ++ decimal words) × (e₅ ≤ e₄ + 17)
      → (o₆ : List ℕ) (e₆ : ℕ)
      → Appends o₅ e₅ o₆ e₆ (10 ∷ [])
      → Appends o 0 o₆ e₆ (line_text number (place_of place) tries words) × (e₆ ≤ 69)
  unfolding line_text
  line_appends g₁ o₂ e₂ g₂ o₃ e₃ g₃ o₄ e₄ g₄ o₅ e₅ g₅ o₆ e₆ g₆ =
      let p = appends_more o₁ e₁ o₂ e₂ _ g₂ o₃ e₃ _ g₃.0 in
      let to₃ = appends_more o 0 o₁ e₁ _ g₁.0 o₃ e₃ _ p in
      let to₄ = appends_more o 0 o₃ e₃ _ to₃ o₄ e₄ _ g₄.0 in
      let to₅ = appends_more o 0 o₄ e₄ _ to₄ o₅ e₅ _ g₅.0 in
      (appends_more o 0 o₅ e₅ _ to₅ o₆ e₆ _ g₆, omega (arith, g₁.1, g₂.size, g₃.1, g₄.1, g₅.1, g₆.size))

-- ---- the words
pub record Worded (o : List ℕ) (at : ℕ) (words o' : List ℕ) (end i : ℕ) : Type 0 where
  pub appended : Appends o at o' end (concat_map word_line (take i words))
  pub long : length o' ≡ length o
  pub most : end ≤ at + 11 * i
  pub below : i ≤ length words

module _ (o : List ℕ) (at : ℕ) (words : List ℕ) (fits : at + 11 * length words ≤ length o) where
  pub no_words : Worded o at words o at 0
  unfolding concat_map
  no_words = record { appended = appends_none o at (omega arith); long = refl; most = omega arith; below = omega arith }

  module _ (o' : List ℕ) (end i : ℕ) (h : Worded o at words o' end i) where
    pub word_more :
        i < length words
        → (o₁ : List ℕ) (e₁ : ℕ)
        → Appends o' end o₁ e₁ (decimal (get_or words i 0)) × (e₁ ≤ end + 10)
        → length o₁ ≡ length o'
        → (o₂ : List ℕ) (e₂ : ℕ)
        → Appends o₁ e₁ o₂ e₂ (10 ∷ [])
        → length o₂ ≡ length o₁
        → Worded o at words o₂ e₂ (i + 1)
    unfolding word_line
    word_more l o₁ e₁ g₁ s₁ o₂ e₂ g₂ s₂ = record {
      appended = let x = get_or words i 0 in
          let line = appends_more o' end o₁ e₁ (decimal x) g₁.0 o₂ e₂ _ g₂ in
          rw (add-one i, take-suc words i 0 l, concat_more word_line (take i words) x) (appends_more o at o' end _ h.appended o₂ e₂ _ line);
      long = s₂ ∙ s₁ ∙ h.long;
      most = omega (arith, h.most, g₁.1, g₂.size);
      below = omega arith;
    }

    pub all_words_lem : length words ≤ i → Appends o at o' end (concat_map word_line words)
    all_words_lem l = rw (take_all i words l) at h.appended
