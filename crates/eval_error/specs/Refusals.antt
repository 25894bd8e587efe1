-- A refusal as it is handed about: its number, and its place plus 1. What was missing is forgotten.
use Rattle.std.specs.Prelude.{◌≡◌, Bool, true, false, [], ◌++◌, ℕ, ◌≤◌, ◌<◌, eqb}
use Rattle.std.proofs.Math.Path.{refl}
use Rattle.std.proofs.Common.{sym, ap, subst, ⊎_elim, eq-or-lt_of_le, arith}
use Rattle.std.proofs.Math.Bool.{false≢true}
use Rattle.std.proofs.Math.Option.{Option, none}
use borrow.Author.Tests.{eq-eqb, ne_eqb}
use Rattle.std.specs.Prelude.{if◌then◌else◌}
use Rattle.rules.specs.Base.{contains}
use Rattle.rules.specs.Outcome.{Refusal, refuse, is_missing, can_catch, wrong_input, combine_with}
use Rattle.rules.specs.Codes.{place_code, place_of}
use Rattle.rules.specs.declared.Refused.{Refused}
use Rattle.rules.proofs.CodeLaws.{place_code_lem, code_place}

unfoldable pub refused_of : Refusal → Refused
refused_of e = record { number = e.number; place = place_code e.place }

unfoldable pub refusal_of : Refused → Refusal
refusal_of r = record { number = r.number; place = place_of r.place; missing = [] }

-- ---- in both directions
pub refused_refusal : (r : Refused) → refused_of (refusal_of r) ≡ r
unfolding refused_of refusal_of
refused_refusal r = ap (λ (p : ℕ). record { number = r.number; place = p }) (code_place r.place)

pub refusal_refused :
    (e : Refusal) → refusal_of (refused_of e) ≡ record { number = e.number; place = e.place; missing = [] }
unfolding refused_of refusal_of
refusal_refused e = ap (λ (p : Option ℕ). record { number = e.number; place = p; missing = [] }) (place_code_lem e.place)

-- ---- only the number counts, and the place is handed on
pub can_catch_number : (e : Refusal) → can_catch e ≡ can_catch (refuse e.number none)
unfolding can_catch
can_catch_number e = refl

pub wrong_input_number : (e : Refusal) → wrong_input e ≡ wrong_input (refuse e.number none)
unfolding wrong_input
wrong_input_number e = refl

pub combine_forgets :
    (e f : Refusal)
    → refused_of (combine_with e f) ≡ refused_of (combine_with (refusal_of (refused_of e)) (refusal_of (refused_of f)))
unfolding refused_of refusal_of combine_with is_missing can_catch
combine_forgets e f = go (is_missing e) (is_missing f) (can_catch e)
  where
    go :
        (p q r : Bool)
        → refused_of (if p
        then (if q then record { number = 20; place = none; missing = e.missing ++ f.missing } else f)
        else (if r then f else e))
        ≡ refused_of (if p
        then (if q then record { number = 20; place = none; missing = [] } else refusal_of (refused_of f))
        else (if r then refusal_of (refused_of f) else refusal_of (refused_of e)))
    go true true r = refl
    go true false r = sym (refused_refusal (refused_of f))
    go false q true = sym (refused_refusal (refused_of f))
    go false q false = sym (refused_refusal (refused_of e))

-- ---- as the code tests
-- a number in a range is its first, or in the range behind that
from_first : (P : ℕ → Type 0) (k n : ℕ) → k ≤ n → P k → (k < n → P n) → P n
from_first P k n h p q = ⊎_elim (λ e. subst P e p) q (eq-or-lt_of_le h)

module _ (n : ℕ) where
  pub not_caught : (20 ≡ n → ⊥) → (21 ≡ n → ⊥) → (24 ≡ n → ⊥) → can_catch (refuse n none) ≡ false
  unfolding can_catch contains
  not_caught a b c = rw (ne_eqb 20 n a, ne_eqb 21 n b, ne_eqb 24 n c)

  pub not_wrong :
      (9 ≡ n → ⊥) → (22 ≡ n → ⊥) → (23 ≡ n → ⊥) → (24 ≡ n → ⊥) → (27 ≡ n → ⊥) → wrong_input (refuse n none) ≡ false
  unfolding wrong_input contains
  not_wrong a b c d e = rw (ne_eqb 9 n a, ne_eqb 22 n b, ne_eqb 23 n c, ne_eqb 24 n d, ne_eqb 27 n e)

  pub caught : 20 ≤ n → n ≤ 21 → can_catch (refuse n none) ≡ true
  unfolding can_catch contains
  caught h k =
      from_first (λ (m : ℕ). can_catch (refuse m none) ≡ true) 20 n h refl (λ (l : 20 < n).
      from_first (λ (m : ℕ). can_catch (refuse m none) ≡ true) 21 n l refl (λ (m : 21 < n). absurd (omega arith)))

  pub wrong : 22 ≤ n → n ≤ 24 → wrong_input (refuse n none) ≡ true
  unfolding wrong_input contains
  wrong h k =
      from_first (λ (m : ℕ). wrong_input (refuse m none) ≡ true) 22 n h refl (λ (l : 22 < n).
      from_first (λ (m : ℕ). wrong_input (refuse m none) ≡ true) 23 n l refl (λ (j : 23 < n).
      from_first (λ (m : ℕ). wrong_input (refuse m none) ≡ true) 24 n j refl (λ (m : 24 < n). absurd (omega arith))))

  pub missing_caught : can_catch (refuse n none) ≡ false → n ≡ 20 → ⊥
  unfolding can_catch contains
  missing_caught h e = false≢true (sym (rw e at h))

module _ (a b : Refused) where
  abbrev pub combined : Refused
  combined = refused_of (combine_with (refusal_of a) (refusal_of b))

  pub combine_missing : a.number ≡ 20 → eqb b.number 20 ≡ true → record { number = 20; place = 0 } ≡ combined
  unfolding refused_of refusal_of combine_with is_missing
  combine_missing p q = rw (eq-eqb _ _ p, q)

  pub combine_second : a.number ≡ 20 → eqb b.number 20 ≡ false → b ≡ combined
  unfolding refused_of refusal_of combine_with is_missing
  combine_second p q = rw (eq-eqb _ _ p, q) (sym (refused_refusal b))

  pub combine_caught : (a.number ≡ 20 → ⊥) → can_catch (refuse a.number none) ≡ true → b ≡ combined
  unfolding refused_of refusal_of combine_with is_missing can_catch
  combine_caught p h = rw (ne_eqb _ _ p, h) (sym (refused_refusal b))

  pub combine_first : can_catch (refuse a.number none) ≡ false → a ≡ combined
  unfolding refused_of refusal_of combine_with is_missing can_catch
  combine_first h = rw (ne_eqb _ _ (missing_caught a.number h), h) (sym (refused_refusal a))
