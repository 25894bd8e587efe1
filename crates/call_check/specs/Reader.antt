-- What the entry points hand back, as numbers, for what the rules give.
use Rattle.std.specs.Prelude.{Bool, true, false, List, ◌≡◌, ℕ, ◌<◌, length}
use Rattle.std.specs.Prelude.{Result, Ok, Err}
use Rattle.std.proofs.Math.Option.{Option, some, none}
use Rattle.rules.specs.Outcome.{Outcome, ok, refused, fault}
use Rattle.rules.specs.Codes.{place_code, place_of}
use Rattle.rules.specs.Calls.{Splitting, call_split, split_refused}
use Rattle.rules.specs.Reported.{number_of, place_told}
use Rattle.rules.specs.declared.RefusedAt.{RefusedAt}
use Rattle.split_line.specs.Input.{Splittable}
use Rattle.rules.specs.declared.Refused.{Refused}
use Rattle.split_args.specs.declared.Ended.{Ended}
use Rattle.split_args.specs.Construct.{starting_state, MarkerWithin}
use Rattle.call_check.specs.declared.Told.{Told}
use Rattle.call_check.specs.declared.SplitAnswer.{SplitAnswer}

-- 5 and 6 name no place
abbrev pub sheet_code : ℕ → Refused
sheet_code n = record { number = n; place = 0 }

-- an answer as a number; refused, it is 0 and the refusal stands beside it. A fault has none
abbrev pub told : {A : Type 0} → (A → ℕ) → Outcome A → Option Told
told code (ok a) = some (record { number = 0; place = 0; answer = code a })
told code (refused e) = some (record { number = e.number; place = place_code e.place; answer = 0 })
told code (fault x) = none

-- the same of a number or a refusal, whose place plus 1 fits in a word
abbrev pub told_of : Result ℕ RefusedAt → Told
told_of (Ok a) = record { number = 0; place = 0; answer = a }
told_of (Err e) = record { number = number_of e.refusal; place = place_told e.place; answer = 0 }

abbrev pub SmallPlace : Result ℕ RefusedAt → Type 0
SmallPlace (Ok a) = Unit {0}
SmallPlace (Err e) = place_told e.place < 4294967296

abbrev pub Tells : Option Told → Result ℕ RefusedAt → Type 0
Tells o r = (o ≡ some (told_of r)) × SmallPlace r

-- yes 1, no 0
abbrev pub yes_code : Bool → ℕ
yes_code true = 1
yes_code false = 0

-- what a split handed back, with the words of the item slice
unfoldable pub splitting_of : SplitAnswer → List ℕ → Splitting
splitting_of r items = record { number = r.number; place = place_of r.place; state = r.state; items = items }

-- how splitting ended, with the state that the items start in
abbrev pub answer_of : Ended → SplitAnswer
answer_of r = record { number = r.number; place = r.place; state = starting_state r.count r.marker }

pub record SplitAnswers (o : Outcome Splitting) (items : List ℕ) (r : Ended) : Type 0 where
  pub same : o ≡ ok (splitting_of (answer_of r) items)
  pub marked : MarkerWithin r.count r.marker

-- the tests of a split
abbrev pub Admits : {A : Type 0} → List ℕ → List ℕ → List ℕ → Result A RefusedAt → Type 0
Admits form sheet items (Ok a) = Splittable form sheet items
Admits form sheet items (Err e) =
    (call_split form sheet (length items) ≡ ok (split_refused (length items) (number_of e.refusal) (place_of (place_told e.place))))
    × (place_told e.place < 4294967296)
