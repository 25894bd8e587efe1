-- What is answered.
use Rattle.std.specs.Prelude.{List, [], ◌≡◌, ℕ, length}
use Rattle.rules.specs.Codes.{place_code}
use Rattle.rules.specs.Run.{padded}
use Rattle.rules_join.specs.Join.{JoinReport}
use Rattle.form_join.specs.declared.Joined.{Joined}
use Rattle.form_join.specs.Moved.{FormPasses}

abbrev pub answered : (number place size form : ℕ) → Joined
answered number place size form = record { number = number; place = place; length = size; form = form }

-- a place is itself plus 1, or 0 for none
pub record ReportsJoin (x : JoinReport) (r : Joined) (o : List ℕ) : Type 0 where
  pub answer : r ≡ answered x.number (place_code x.place) x.length x.form
  pub output : o ≡ x.output

-- no form, and an output of n bytes that is 0
pub record Refuses (number place form n : ℕ) (r : Joined) (o : List ℕ) : Type 0 where
  pub answer : r ≡ answered number place 0 form
  pub output : o ≡ padded n []

-- bytes, and 0 to the end of an output of n bytes
pub record Fills (n : ℕ) (bytes : List ℕ) (r : Joined) (o : List ℕ) : Type 0 where
  pub answer : r ≡ answered 0 0 (length bytes) 0
  pub output : o ≡ padded n bytes

pub record BothPass (x y : List ℕ) : Type 0 where
  pub first : FormPasses x
  pub second : FormPasses y
