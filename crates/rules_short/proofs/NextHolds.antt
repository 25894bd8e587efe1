-- Every alphabet, sheet and output is answered, and the step is to the next legal sheet.
use mathlib.Core.Bool.{Bool, true, false, not, true≢false, false≢true}
use mathlib.Core.List.{List, [], ◌∷◌}
use mathlib.Core.Logic.{◌⊎◌, inl, inr}
use mathlib.Core.Option.{Option, some, none}
use mathlib.Core.Path.{◌≡◌, refl, sym, ap, ◌∙◌}
use Prim.Native.Nat.{ℕ, zero, suc, ◌≤◌, ◌<◌}
use native.Mathlib.Nat.{sub-zero}
use native.Mathlib.Omega.{arith}
use lib.Dec.{ltb, lit<}
use lib.ListN.{length}
use borrow.Author.Tests.{ltb-true, ltb-false}
use Rattle.std.specs.Prelude.{if◌then◌else◌}
use Rattle.rules.specs.Sheet.{arguments}
use Rattle.rules.specs.Encode.{encode_sheet}
use Rattle.rules.specs.Run.{padded}
use Rattle.rules.specs.Demands.{All, Bytes}
use Rattle.rules.proofs.Acceptance.{All-map}
use Rattle.rules.proofs.Formats.{sheet_bytes}
use Rattle.rules_short.specs.Short.{alphabet_good, sheet_legal, next_arguments, written, next_sheet}
use Rattle.rules_short.specs.ShortAnswered.{AlphabetMade, Letter, ArgumentShort, ArgumentsShort, SheetShort, Precedes, Ordered, Cleared, NextOf, NextAnswered}
use Rattle.rules_short.proofs.SetLaws.{good_alphabet, alphabet_good_lem, legal_sheet, sheet_legal_lem, encoded_arguments, encoded_legal, legal_length, told_by_arguments}
use Rattle.rules_short.proofs.ShortLaws.{InDigits, short_digits, digits_short}
use Rattle.rules_short.proofs.RankLaws.{sheet_rank, rank_below, before_less, less_before, arguments_cases}
use Rattle.rules_short.proofs.NextLaws.{Follows, StepsTo, next_ranked}

-- bytes of an alphabet of bytes
letters_bytes : (al os : List ℕ) → Bytes al → All (Letter al) os → Bytes os
letters_bytes al [] small h k = lit< tt
letters_bytes al (b ∷ os) small h zero = rw h.0.here at (small h.0.place)
letters_bytes al (b ∷ os) small h (suc k) = letters_bytes al os small h.1 k

short_bytes : (al : List ℕ) (args : List (List ℕ)) → Bytes al → ArgumentsShort al args → Bytes (encode_sheet args)
short_bytes al args small h =
    sheet_bytes args (All-map (ArgumentShort al) Bytes (λ os short. letters_bytes al os small short.letters) args h.each)

-- ---- the order
module _ (al : List ℕ) where
  digits : (s : List ℕ) → SheetShort al s → InDigits al (arguments s)
  digits s h = short_digits al (arguments s) h.short

  -- a sheet comes before another exactly if fewer come before it
  lower : (s t : List ℕ) → SheetShort al s → SheetShort al t → Precedes al s t → sheet_rank al (arguments s) < sheet_rank al (arguments t)
  lower s t p q e = before_less al (arguments s) (arguments t) (digits s p) (digits t q) e

  precedes : (s t : List ℕ) → SheetShort al s → SheetShort al t → sheet_rank al (arguments s) < sheet_rank al (arguments t) → Precedes al s t
  precedes s t p q l = less_before al (arguments s) (arguments t) (digits s p) (digits t q) l

  pub ordered : Ordered al
  ordered = record {
    irreflexive = λ s p e. omega (arith, lower s s p p e);
    transitive = λ s t u p q r e f. precedes s u p r (omega (arith, lower s t p q e, lower t u q r f));
    total = λ s t bs bt p q. go s t bs bt p q (arguments_cases al (arguments s) (arguments t) (digits s p) (digits t q));
    fits = legal_length al;
  }
    where
      go :
          (s t : List ℕ)
          → Bytes s
          → Bytes t
          → SheetShort al s
          → SheetShort al t
          → Precedes al s t ⊎ ((arguments s ≡ arguments t) ⊎ Precedes al t s)
          → Precedes al s t ⊎ ((s ≡ t) ⊎ Precedes al t s)
      go s t bs bt p q (inl e) = inl e
      go s t bs bt p q (inr (inl e)) = inr (inl (told_by_arguments s t bs bt p.made q.made e))
      go s t bs bt p q (inr (inr e)) = inr (inr e)

-- ---- the step
module _ (al s : List ℕ) (n : ℕ) (made : AlphabetMade al) (legal : SheetShort al s) where
  abbrev args : List (List ℕ)
  args = arguments s

  step_next : (xs : List (List ℕ)) → Follows al made args xs → NextOf al s n (written n 0 false (encode_sheet xs))
  unfolding written padded
  step_next xs f =
      let short = digits_short al xs f.digits in
      let back : arguments (encode_sheet xs) ≡ xs = encoded_arguments al xs short in
      record {
        sheet = encode_sheet xs;
        size = refl;
        fits = legal_length al (encode_sheet xs) (encoded_legal al xs short);
        output = refl;
        encoded = ap encode_sheet back;
        bytes = λ small. short_bytes al xs small short;
        legal = encoded_legal al xs short;
        after = rw back (less_before al args xs (digits al s legal) f.digits (omega (arith, f.behind)));
        between = λ t h p q. omega (
          arith,
          f.behind,
          lower al s t legal h p,
          before_less al (arguments t) xs (digits al t h) f.digits (rw back at q),
        );
      }

  step_last : StepsTo al made args none → (t : List ℕ) → SheetShort al t → Precedes al s t → ⊥
  step_last e t h p = omega (arith, lower al s t legal h p, rank_below al (arguments t) (digits al t h))

-- ---- the call
no_sheet : (n k : ℕ) (b : Bool) → Cleared n (written n k b [])
unfolding written padded
no_sheet n k b = record { length = refl; output = rw (sub-zero n) }

module _ (al s : List ℕ) (n : ℕ) where
  -- 16, 17 or 19, with the facts of each
  module _
      (k : ℕ) (one : (k ≡ 16) ⊎ ((k ≡ 17) ⊎ (k ≡ 19)))
      (alphabet : k ≡ 16 → AlphabetMade al → ⊥)
      (sheet : k ≡ 17 → AlphabetMade al × (SheetShort al s → ⊥))
      (room : k ≡ 19 → AlphabetMade al × SheetShort al s × (n < 22)) where
    refused_answer : NextAnswered al s n (written n k false [])
    unfolding written
    refused_answer = record {
      number = inr one;
      place = refl;
      alphabet = alphabet;
      sheet = sheet;
      room = room;
      good = λ e. absurd (not_zero one e);
      refused = λ _. (refl, no_sheet n k false);
      next = λ e _. absurd (not_zero one e);
      last = λ e. absurd (false≢true e);
    }
      where
        not_zero : (k ≡ 16) ⊎ ((k ≡ 17) ⊎ (k ≡ 19)) → k ≡ 0 → ⊥
        not_zero (inl p) e = omega arith
        not_zero (inr (inl p)) e = omega arith
        not_zero (inr (inr p)) e = omega arith

  -- 0
  module _ (made : AlphabetMade al) (legal : SheetShort al s) (room : 22 ≤ n) where
    last_answer : StepsTo al made (arguments s) none → NextAnswered al s n (written n 0 true [])
    unfolding written
    last_answer e = record {
      number = inl refl;
      place = refl;
      alphabet = λ z. absurd (omega (arith, z));
      sheet = λ z. absurd (omega (arith, z));
      room = λ z. absurd (omega (arith, z));
      good = λ _. (made, legal, room);
      refused = λ h. absurd (h refl);
      next = λ _ z. absurd (true≢false z);
      last = λ _. (refl, no_sheet n 0 true, step_last al s n made legal e);
    }

    next_answer : (xs : List (List ℕ)) → StepsTo al made (arguments s) (some xs) → NextAnswered al s n (written n 0 false (encode_sheet xs))
    unfolding written
    next_answer xs f = record {
      number = inl refl;
      place = refl;
      alphabet = λ z. absurd (omega (arith, z));
      sheet = λ z. absurd (omega (arith, z));
      room = λ z. absurd (omega (arith, z));
      good = λ _. (made, legal, room);
      refused = λ h. absurd (h refl);
      next = λ _ _. step_next al s n made legal xs f;
      last = λ z. absurd (false≢true z);
    }

  pub next_answered : NextAnswered al s n (next_sheet al s n)
  unfolding next_sheet
  next_answered = go (alphabet_good al) refl (sheet_legal al s) refl (ltb n 22) refl (next_arguments al (arguments s)) refl
    where
      go :
          (x : Bool)
          → alphabet_good al ≡ x
          → (y : Bool)
          → sheet_legal al s ≡ y
          → (z : Bool)
          → ltb n 22 ≡ z
          → (o : Option (List (List ℕ)))
          → next_arguments al (arguments s) ≡ o
          → NextAnswered al s n (
          if not x
          then written n 16 false []
          else (if not y
          then written n 17 false []
          else (if z
          then written n 19 false []
          else elim o [ none ↦ written n 0 true [] | some args ↦ written n 0 false (encode_sheet args) ])))
      go false p y q z r o e =
          refused_answer 16 (inl refl) (λ _ made. true≢false (sym (alphabet_good_lem al made) ∙ p))
          (λ f. absurd (omega (arith, f))) (λ f. absurd (omega (arith, f)))
      go true p false q z r o e =
          refused_answer 17 (inr (inl refl)) (λ f. absurd (omega (arith, f)))
          (λ _. (good_alphabet al p, λ legal. true≢false (sym (sheet_legal_lem al s legal) ∙ q))) (λ f. absurd (omega (arith, f)))
      go true p true q true r o e =
          refused_answer 19 (inr (inr refl)) (λ f. absurd (omega (arith, f))) (λ f. absurd (omega (arith, f)))
          (λ _. (good_alphabet al p, legal_sheet al s q, ltb-true n 22 r))
      go true p true q false r o e = answer o (rw e at (next_ranked al made (arguments s) (digits al s legal)))
        where
          made : AlphabetMade al
          made = good_alphabet al p

          legal : SheetShort al s
          legal = legal_sheet al s q

          answer :
              (o : Option (List (List ℕ)))
              → StepsTo al made (arguments s) o
              → NextAnswered al s n (elim o [ none ↦ written n 0 true [] | some args ↦ written n 0 false (encode_sheet args) ])
          answer none f = last_answer made legal (ltb-false n 22 r) f
          answer (some xs) f = next_answer made legal (ltb-false n 22 r) xs f
