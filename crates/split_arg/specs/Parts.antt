-- What the code's Parts mean: the name and the value that `split_os_argument` finds in an argument.
use Rattle.std.specs.Prelude.{◌≡◌, true, Option as CodeOption, Some, None, List, [], ℕ, ◌+◌, ◌≤◌, length, take, drop}
use Rattle.std.proofs.Math.Option.{Option, some, none}
use Rattle.utf8.specs.Utf8.{well_formed}
use Rattle.rules.specs.Outcome.{Outcome, ok}
use Rattle.rules.specs.Split.{Parts as Meaning, short, long, before_equals}
use Rattle.split_arg.specs.declared.Parts.{Parts}
use Rattle.split_arg.specs.declared.Parts.TheVariants.{Short, ShortBody, Long, LongBody}

-- where the first `=` from a byte on stands, or the end
unfoldable pub equals_from : List ℕ → ℕ → ℕ
equals_from os from = from + length (before_equals (drop from os))

-- a short name begins at byte 1, a long one at byte 2
abbrev pub name_of : List ℕ → CodeOption Parts → List ℕ
name_of os None = []
name_of os (Some (Short n)) = take n (drop 1 os)
name_of os (Some (ShortBody n k)) = take n (drop 1 os)
name_of os (Some (Long n)) = take n (drop 2 os)
name_of os (Some (LongBody n k)) = take n (drop 2 os)

abbrev pub parts_of : List ℕ → CodeOption Parts → Option Meaning
parts_of os None = none
parts_of os (Some (Short n)) = some (record { type = short; name = take n (drop 1 os); body = none })
parts_of os (Some (ShortBody n k)) = some (record { type = short; name = take n (drop 1 os); body = some (drop k os) })
parts_of os (Some (Long n)) = some (record { type = long; name = take n (drop 2 os); body = none })
parts_of os (Some (LongBody n k)) = some (record { type = long; name = take n (drop 2 os); body = some (drop k os) })

-- A name without a value reaches to the end. The name of a short one with a value is one byte, and the value begins behind
-- it or behind its `=`; that of a long one ends at the `=` before the value
abbrev pub Sized : List ℕ → CodeOption Parts → Type 0
Sized os None = Unit {0}
Sized os (Some (Short n)) = (1 ≤ n) × (1 + n ≡ length os)
Sized os (Some (ShortBody n k)) = (n ≡ 1) × (2 ≤ k) × (k ≤ length os)
Sized os (Some (Long n)) = (1 ≤ n) × (2 + n ≡ length os)
Sized os (Some (LongBody n k)) = (3 + n ≡ k) × (k ≤ length os)

-- what is found, how many bytes it has, and that the name is UTF-8
pub record TellsParts (os : List ℕ) (r : CodeOption Parts) (o : Outcome (Option Meaning)) : Type 0 where
  pub same : ok (parts_of os r) ≡ o
  pub sized : Sized os r
  pub good : well_formed (name_of os r) ≡ true
