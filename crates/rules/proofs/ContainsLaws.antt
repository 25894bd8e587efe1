-- What two lists hold together.
use mathlib.Core.Path.{◌≡◌, refl, sym}
use mathlib.Core.Bool.{◌||◌, or_assoc}
use mathlib.Core.List.{List, [], ◌∷◌, ◌++◌}
use Prim.Native.Nat.{ℕ}
use lib.Dec.{eqb}
use Rattle.rules.specs.Base.{contains, same}
use Rattle.rules.specs.Take.{contains_name}

pub contains_append : (l m : List ℕ) (c : ℕ) → contains (l ++ m) c ≡ (contains l c || contains m c)
unfolding contains
contains_append [] m c = refl
contains_append (x ∷ l) m c = rw (contains_append l m c) (sym (or_assoc (eqb x c) (contains l c) (contains m c)))

pub names_append : (l m : List (List ℕ)) (n : List ℕ) → contains_name (l ++ m) n ≡ (contains_name l n || contains_name m n)
unfolding contains_name
names_append [] m n = refl
names_append (x ∷ l) m n = rw (names_append l m n) (sym (or_assoc (same x n) (contains_name l n) (contains_name m n)))
