-- Each way out of `split_long`, `split_short` and `split_os_argument`, against the definition.
use Rattle.std.specs.Prelude.{if◌then◌else◌}
use mathlib.Core.Path.{◌≡◌, refl, ◌∙◌, ap}
use mathlib.Core.Bool.{Bool, true, false}
use mathlib.Core.Logic.{⊎_elim}
use mathlib.Core.List.{List, [], ◌∷◌}
use mathlib.Core.Option.{Option, some, none}
use Prim.Native.Nat.{ℕ, suc, ◌+◌, ◌-◌, ◌≤◌, ◌<◌}
use native.Mathlib.Nat.{eq-or-lt_of_le}
use native.Mathlib.Omega.{arith}
use lib.Dec.{eqb}
use lib.ListN.{length, get_or, take, drop, length-drop, drop_of_length-le}
use lib.Seq.{drop-cons, drop-drop, take_all}
use borrow.Author.Tests.{eq-eqb, ne_eqb}
use Rattle.utf8.specs.Utf8.{well_formed, well_formed_after}
use Rattle.rules.specs.Base.{null}
use Rattle.rules.specs.Outcome.{Outcome, ok, ◌>>=◌}
use Rattle.rules.specs.Split.{dash, parts, before_equals, behind_equals, split_long, short_body, split_short, behind_dash, split_os_argument}
use Rattle.rules.specs.Split.{Parts as Meaning}
use Rattle.rules.proofs.SplitLaws.{short_body_lem}
use Rattle.split_arg.specs.declared.Parts.{Parts}
use Rattle.std.specs.Prelude.{Option as CodeOption, Some, None}
use Rattle.split_arg.specs.declared.Parts.TheVariants.{Short, ShortBody, Long, LongBody}
use Rattle.split_arg.specs.Parts.{equals_from, TellsParts}
use Rattle.split_arg.proofs.Equals.{before_few, before_part, no_equals_lem, has_equals}

pub null_false : {A : Type 0} (l : List A) → (length l ≡ 0 → ⊥) → null l ≡ false
unfolding null
null_false [] h = absurd (h refl)
null_false (x ∷ l) h = refl

pub null_true : {A : Type 0} (l : List A) → length l ≡ 0 → null l ≡ true
unfolding null
null_true [] h = refl
null_true (x ∷ l) h = absurd (omega arith)

pub told_none : (os : List ℕ) (o : Outcome (Option Meaning)) → ok none ≡ o → TellsParts os None o
unfolding well_formed well_formed_after
told_none os o e = record { same = e; sized = tt; good = refl }

module _ (os : List ℕ) (two : 2 ≤ length os) where
  -- `--`
  pub no_long_name : length os ≡ 2 → TellsParts os None (ok (split_long (drop 2 os)))
  unfolding split_long behind_equals null
  no_long_name h = told_none os _ (let few : length os ≤ 2 = omega arith in rw (drop_of_length-le os few))

  module _ (e : ℕ) (f : e ≡ equals_from os 2) where
    size : e ≡ 2 + length (before_equals (drop 2 os))
    unfolding equals_from
    size = f

    pub equals_least : 2 ≤ e
    equals_least = omega (arith, size)

    pub equals_most : e ≤ length os
    equals_most = omega (arith, size, before_few (drop 2 os), length-drop 2 os)

    before : before_equals (drop 2 os) ≡ take (e - 2) (drop 2 os)
    before =
        before_part (drop 2 os)
        ∙ ap (λ (n : ℕ). take n (drop 2 os)) (let s = size in let r : length (before_equals (drop 2 os)) ≡ e - 2 = omega arith in r)

    without : e ≡ length os → behind_equals (drop 2 os) ≡ none
    without h = no_equals_lem (drop 2 os) (omega (arith, size, length-drop 2 os))

    whole : e ≡ length os → take (e - 2) (drop 2 os) ≡ drop 2 os
    whole h = take_all (e - 2) (drop 2 os) (omega (arith, length-drop 2 os))

    value : (e ≡ length os → ⊥) → behind_equals (drop 2 os) ≡ some (drop (e + 1) os)
    value h =
        has_equals (drop 2 os) (λ l. h (omega (arith, size, length-drop 2 os)))
        ∙ ap (λ (l : List ℕ). some l)
        (drop-drop (suc (length (before_equals (drop 2 os)))) 2 os
        ∙ ap (λ (n : ℕ). drop n os) (let s = size in let r : 2 + suc (length (before_equals (drop 2 os))) ≡ e + 1 = omega arith in r))

    -- ---- `split_long`
    module _ (some-name : length os ≡ 2 → ⊥) where
      named : null (drop 2 os) ≡ false
      named = null_false (drop 2 os) (λ z. some-name (omega (arith, length-drop 2 os)))

      pub long_bad : well_formed (take (e - 2) (drop 2 os)) ≡ false → TellsParts os None (ok (split_long (drop 2 os)))
      unfolding split_long parts
      long_bad w =
          told_none os _
          (⊎_elim
          (λ h. rw (without h, split_long, named, rw (whole h) at w))
          (λ h. rw (value (λ z. omega arith), split_long, before, w))
          (eq-or-lt_of_le equals_most))

      pub long_whole : e ≡ length os → well_formed (take (e - 2) (drop 2 os)) ≡ true → TellsParts os (Some (Long (e - 2))) (ok (split_long (drop 2 os)))
      unfolding split_long parts
      long_whole h w = record {
        same = rw (without h, split_long, named, whole h, rw (whole h) at w);
        sized = (omega (arith, two), omega (arith, two));
        good = w;
      }

      pub long_value :
          (e ≡ length os → ⊥)
          → well_formed (take (e - 2) (drop 2 os)) ≡ true
          → TellsParts os (Some (LongBody (e - 2) (e + 1))) (ok (split_long (drop 2 os)))
      unfolding split_long parts
      long_value h w = record {
        same = rw (value h, split_long, before, w);
        sized = (omega (arith, equals_least), omega (arith, equals_most));
        good = w;
      }

    -- ---- `split_short`
    letter : drop 1 os ≡ get_or os 1 0 ∷ drop 2 os
    letter = drop-cons os 1 0 (omega (arith, two))

    rest : take (length os - 1) (drop 1 os) ≡ drop 1 os
    rest = take_all (length os - 1) (drop 1 os) (omega (arith, length-drop 1 os))

    pub short_bad :
        e ≡ length os
        → well_formed (take (length os - 1) (drop 1 os)) ≡ false
        → TellsParts os None (split_short (get_or os 1 0) (drop 2 os))
    unfolding split_short parts
    short_bad h w = told_none os _ (rw (without h, split_short, rw (rest, letter) at w))

    pub short_whole :
        e ≡ length os
        → well_formed (take (length os - 1) (drop 1 os)) ≡ true
        → TellsParts os (Some (Short (e - 1))) (split_short (get_or os 1 0) (drop 2 os))
    unfolding split_short parts
    short_whole h w = record {
      same = rw (without h, split_short, h, rest, letter, rw (rest, letter) at w);
      sized = (omega (arith, two), omega (arith, two));
      good = rw h w;
    }

    module _ (h : e ≡ length os → ⊥) where
      body :
          short_body (get_or os 1 0 ∷ before_equals (drop 2 os)) (drop (e + 1) os)
          ≡ ok (if null (before_equals (drop 2 os)) then drop (e + 1) os else drop 2 os)
      body = short_body_lem (get_or os 1 0) (drop 2 os) (drop (e + 1) os) (value h)

      pub letter_bad : well_formed (take 1 (drop 1 os)) ≡ false → TellsParts os None (split_short (get_or os 1 0) (drop 2 os))
      unfolding split_short parts ◌>>=◌
      letter_bad w = told_none os _ (rw (value h, split_short, body, rw letter at w))

      module _ (w : well_formed (take 1 (drop 1 os)) ≡ true) where
        pub short_value_lem : e ≡ 2 → TellsParts os (Some (ShortBody 1 3)) (split_short (get_or os 1 0) (drop 2 os))
        unfolding split_short parts ◌>>=◌
        short_value_lem t =
            let three : e + 1 ≡ 3 = omega arith in
            let first = null_true (before_equals (drop 2 os)) (omega (arith, size)) in
            record {
              same = rw (value h, split_short, body, three, first, letter, rw letter at w);
              sized = (refl, omega arith, omega (arith, equals_most));
              good = w;
            }

        pub short_rest : (e ≡ 2 → ⊥) → TellsParts os (Some (ShortBody 1 2)) (split_short (get_or os 1 0) (drop 2 os))
        unfolding split_short parts ◌>>=◌
        short_rest t =
            let later = null_false (before_equals (drop 2 os)) (λ z. t (omega (arith, size))) in
            record { same = rw (value h, split_short, body, later, letter, rw letter at w); sized = (refl, omega arith, two); good = w }

-- ---- `split_os_argument`
pub too_short : (os : List ℕ) → length os < 2 → TellsParts os None (split_os_argument os)
unfolding split_os_argument behind_dash
too_short [] h = told_none [] _ refl
too_short (b ∷ []) h = told_none (b ∷ []) _ (go (eqb b dash))
  where
    go : (t : Bool) → ok none ≡ (if t then behind_dash [] else ok none)
    go true = refl
    go false = refl
too_short (b ∷ c ∷ os) h = absurd (omega arith)

pub no_dash_lem : (os : List ℕ) → 2 ≤ length os → (get_or os 0 0 ≡ 45 → ⊥) → TellsParts os None (split_os_argument os)
unfolding split_os_argument dash
no_dash_lem [] h e = absurd (omega arith)
no_dash_lem (b ∷ os) h e = told_none (b ∷ os) _ (rw (ne_eqb b 45 e))

pub two_dashes :
    (os : List ℕ) (r : CodeOption Parts)
    → 2 ≤ length os
    → get_or os 0 0 ≡ 45
    → get_or os 1 0 ≡ 45
    → TellsParts os r (ok (split_long (drop 2 os)))
    → TellsParts os r (split_os_argument os)
unfolding split_os_argument behind_dash dash
two_dashes [] r h e f t = absurd (omega arith)
two_dashes (b ∷ []) r h e f t = absurd (omega arith)
two_dashes (b ∷ c ∷ os) r h e f t = rw (eq-eqb b 45 e, eq-eqb c 45 f) t

pub one_dash :
    (os : List ℕ) (r : CodeOption Parts)
    → 2 ≤ length os
    → get_or os 0 0 ≡ 45
    → (get_or os 1 0 ≡ 45 → ⊥)
    → TellsParts os r (split_short (get_or os 1 0) (drop 2 os))
    → TellsParts os r (split_os_argument os)
unfolding split_os_argument behind_dash dash
one_dash [] r h e f t = absurd (omega arith)
one_dash (b ∷ []) r h e f t = absurd (omega arith)
one_dash (b ∷ c ∷ os) r h e f t = rw (eq-eqb b 45 e, ne_eqb c 45 f) t
