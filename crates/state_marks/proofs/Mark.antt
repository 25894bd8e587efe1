-- One mark: outside the rules' own proofs, only here are `parsed`, `present`, `winner` and the marks that are written unfolded.
use mathlib.Core.Path.{◌≡◌, refl, sym, ap, ◌∙◌}
use mathlib.Core.Bool.{Bool, true, false, not}
use mathlib.Core.Option.{some, none}
use Prim.Native.Nat.{ℕ, ◌+◌, ◌-◌, ◌≤◌, ◌<◌}
use native.Mathlib.Omega.{arith}
use lib.Dec.{leb, ltb}
use borrow.Author.Tests.{leb-false, eq-eqb, ne_eqb, lt-leb, le-leb, lt-ltb, le-ltb, ltb-true, ltb-false}
use Rattle.rules.specs.State.{marker_mark, command_mark, field_mark, parsed, present, winner, used_below, mark_good}
use Rattle.rules.specs.Base.{minus}
use Rattle.state_marks.specs.Written.{marker_number, command_number}

-- ---- the marks that are written count as parsed, and the rules say them

pub marker_told : marker_number ≡ marker_mark
unfolding marker_mark
marker_told = refl

pub marker_parsed : parsed marker_number ≡ true
unfolding parsed marker_mark
marker_parsed = refl

pub command_told : command_number ≡ command_mark
unfolding command_mark
command_told = refl

pub command_parsed : parsed command_number ≡ true
unfolding parsed marker_mark
command_parsed = refl

pub field_told : (k m : ℕ) → m ≡ 512 + k → m ≡ field_mark k
unfolding field_mark
field_told k m e = e

-- ---- parsed or present

pub parsed_is : (m : ℕ) → leb 510 m ≡ parsed m
unfolding parsed marker_mark
parsed_is m = refl

pub present_is : (m : ℕ) (x : Bool) → x ≡ parsed m → not x ≡ present m
unfolding present
present_is m x e = ap not e

-- by the answer of `is_parsed`
pub present_of : (m : ℕ) (x : Bool) → x ≡ parsed m → x ≡ false → present m ≡ true
present_of m x e h = sym (present_is m x e) ∙ ap not h

pub used_of : (m : ℕ) (x : Bool) → x ≡ parsed m → x ≡ true → present m ≡ false
used_of m x e h = sym (present_is m x e) ∙ ap not h

-- ---- what it is in conflict with

module _ (m : ℕ) (x : Bool) (e : x ≡ parsed m) where
  pub winner_parsed : x ≡ true → none ≡ winner m
  unfolding winner
  winner_parsed h = rw (← e, h)

  pub winner_none : x ≡ false → m < 2 → none ≡ winner m
  unfolding winner minus
  winner_none h l = rw (← e, h, lt-leb 2 m l)

  pub winner_some : x ≡ false → 2 ≤ m → some (m - 2) ≡ winner m
  unfolding winner minus
  winner_some h l = rw (← e, h, le-leb 2 m l)

  pub winner_small : x ≡ false → m - 2 < 510
  winner_small h = omega (arith, leb-false 510 m (parsed_is m ∙ sym e ∙ h))

-- ---- a mark that 29 is asked about

module _ (fields m : ℕ) (x : Bool) (e : x ≡ parsed m) where
  pub unused_below : x ≡ false → x ≡ used_below fields m
  unfolding used_below
  unused_below h = h ∙ rw (← e, h)

  pub named_below : x ≡ true → m < 512 → ltb m 512 ≡ used_below fields m
  unfolding used_below field_mark
  named_below h l = lt-ltb m 512 l ∙ rw (← e, h, lt-ltb m (512 + fields) (omega arith))

  pub field_below : x ≡ true → 512 ≤ m → ltb (m - 512) fields ≡ used_below fields m
  unfolding used_below field_mark
  field_below h l = rw (← e, h) (go (ltb (m - 512) fields) refl)
    where
      go : (b : Bool) → ltb (m - 512) fields ≡ b → b ≡ ltb m (512 + fields)
      go true e = sym (lt-ltb m (512 + fields) (omega (arith, ltb-true (m - 512) fields e)))
      go false e = sym (le-ltb m (512 + fields) (omega (arith, ltb-false (m - 512) fields e)))

module _ (used : ℕ → Bool) (n m : ℕ) where
  pub zero_good : m ≡ 0 → true ≡ mark_good used n m
  unfolding mark_good
  zero_good e = rw (eq-eqb m 0 e)

  module _ (zero : m ≡ 0 → ⊥) (x : Bool) (e : x ≡ used m) where
    pub used_good : x ≡ true → true ≡ mark_good used n m
    unfolding mark_good
    used_good h = rw (ne_eqb m 0 zero, ← e, h)

    module _ (h : x ≡ false) where
      pub low_bad : m < 2 → leb 2 m ≡ mark_good used n m
      unfolding mark_good
      low_bad l = lt-leb 2 m l ∙ rw (ne_eqb m 0 zero, ← e, h, lt-leb 2 m l)

      pub winner_good : 2 ≤ m → ltb (m - 2) n ≡ mark_good used n m
      unfolding mark_good
      winner_good l = rw (ne_eqb m 0 zero, ← e, h, le-leb 2 m l)
