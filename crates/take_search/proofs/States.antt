-- States that are left: where nothing was taken, and one after the other.
use mathlib.Core.List.{List}
use mathlib.Core.Path.{refl, ◌∙◌}
use Prim.Native.Nat.{ℕ}
use Rattle.state_marks.specs.declared.Numbers.{Numbers}
use Rattle.state_marks.specs.Lent.{Fine}
use Rattle.take_search.specs.States.{LeftState}

pub left_same : (m : List ℕ) (p : Numbers) → Fine m p → LeftState m p m p
left_same m p f = record { count = refl; long = refl; fine = f }

pub left_more : (m : List ℕ) (p : Numbers) (m' : List ℕ) (q : Numbers) (m'' : List ℕ) (r : Numbers) → LeftState m p m' q → LeftState m' q m'' r → LeftState m p m'' r
left_more m p m' q m'' r a b = record { count = b.count ∙ a.count; long = b.long ∙ a.long; fine = b.fine }
