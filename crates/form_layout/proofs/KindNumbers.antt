-- A kind from its number.
use mathlib.Core.Bool.{true, cond}
use mathlib.Core.Logic.{◌⊎◌, inl, inr, ⊎_elim}
use mathlib.Core.Path.{◌≡◌, ap}
use Prim.Native.Nat.{ℕ, ◌<◌}
use native.Mathlib.Omega.{arith}
use lib.Dec.{ltb, eqb}
use borrow.Author.Tests.{ltb-true}
use Rattle.form_layout.specs.declared.Kind.{Kind}
use Rattle.form_layout.specs.declared.Kind.TheVariants.{Zero, Flag, Argument, Positional, Optional, Many, AtLeastOne, Count, Last, Choice, Fallback, Guard, Other}
use Rattle.form_layout.specs.Kinds.{kind_number}

-- the kind of a number below 12
abbrev pub kind_by : ℕ → Kind
kind_by n =
    cond (eqb n 1) Flag
    (cond (eqb n 2) Argument
    (cond (eqb n 3) Positional
    (cond (eqb n 4) Optional
    (cond (eqb n 5) Many
    (cond (eqb n 6) AtLeastOne
    (cond (eqb n 7) Count
    (cond (eqb n 8) Last
    (cond (eqb n 9) Choice
    (cond (eqb n 10) Fallback
    (cond (eqb n 11) Guard Zero))))))))))

-- a kind has no other's number
kind_is : (n : ℕ) → n < 12 → (k : Kind) → kind_number k ≡ n → k ≡ kind_by n
kind_is n z Zero e = ap kind_by e
kind_is n z Flag e = ap kind_by e
kind_is n z Argument e = ap kind_by e
kind_is n z Positional e = ap kind_by e
kind_is n z Optional e = ap kind_by e
kind_is n z Many e = ap kind_by e
kind_is n z AtLeastOne e = ap kind_by e
kind_is n z Count e = ap kind_by e
kind_is n z Last e = ap kind_by e
kind_is n z Choice e = ap kind_by e
kind_is n z Fallback e = ap kind_by e
kind_is n z Guard e = ap kind_by e
kind_is n z (Other m) e = absurd (omega arith)

pub not_kind : (k : Kind) (n : ℕ) → ltb n 12 ≡ true → (k ≡ kind_by n → ⊥) → kind_number k ≡ n → ⊥
not_kind k n z f e = f (kind_is n (ltb-true n 12 z) k e)

pub either : (k a b : Kind) → (k ≡ a) ⊎ (k ≡ b) → (kind_number k ≡ kind_number a) ⊎ (kind_number k ≡ kind_number b)
either k a b = ⊎_elim (λ e. inl (ap kind_number e)) (λ e. inr (ap kind_number e))
