-- What a call hands back.
use Rattle.std.specs.Prelude.{Some, None, Ok, Err, Bool, List, ◌≡◌, ℕ, ◌+◌, ◌≤◌}
use Rattle.std.proofs.Math.Option.{some}
use Rattle.rules.specs.Outcome.{Outcome}
use Rattle.rules.specs.Sheet.{sheet_area}
use Rattle.rules.specs.Split.{Item}
use Rattle.rules.specs.Take.{Took}
use Rattle.rules.specs.Calls.{item_from, handed}
use Rattle.rules.specs.declared.State.{State as Raw}
use Rattle.split_arg.specs.Items.{record_at}
use Rattle.state_marks.specs.Lent.{numbers_of}
use Rattle.take_search.specs.States.{Items}
use Rattle.take.specs.Takes.{Value}
use Rattle.call_answers.specs.Answers.{Coded, coded, yes_code, answer_with, state_with, state_answer_of}
use Rattle.call_answers.specs.declared.Answer.{Answer}
use Rattle.call_answers.specs.declared.StateAnswer.{StateAnswer}

-- a place fits in a word
abbrev pub SmallValue : Value → Type 0
SmallValue (Ok None) = Unit {0}
SmallValue (Ok (Some w)) = w.place ≤ 256
SmallValue (Err e) = e.key ≤ 256

-- the value's place; or 22 at the key, with the state that was given
abbrev pub value_answer : Value → Raw → Raw → StateAnswer
value_answer (Ok None) left x = state_with 0 0 (coded 0 0 0) left
value_answer (Ok (Some w)) left x = state_with 0 0 (coded 1 w.place 0) left
value_answer (Err e) left x = state_with 22 (e.key + 1) (coded 0 0 0) x

-- what a take makes of the items of the slice
pub record TakeAnswer {A : Type 0} (code : A → Coded) (sheet words : List ℕ) (x : Raw) (f : List Item → Outcome (Took A)) (r : StateAnswer) : Type 0 where
  pub same : (is : List Item) → Items (sheet_area sheet) words (numbers_of x) is → state_answer_of code (handed x (f is)) ≡ some r

-- what a test says of an item
pub record TestAnswer (sheet words : List ℕ) (i : ℕ) (test : Item → Bool) (r : Answer) : Type 0 where
  pub same : (y : Item) → item_from (sheet_area sheet) (record_at words i) ≡ some y → r ≡ answer_with 0 0 (yes_code (test y))
