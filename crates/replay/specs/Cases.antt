-- What the rules say of a case is what the case says.
use Rattle.std.specs.Prelude.{◌≡◌, cond, Option, Some, None, List, [], ◌∷◌, ℕ}
use Rattle.utf8.specs.Utf8.{decode_at, well_formed}
use Rattle.utf8.specs.declared.Char.{Char}
use Rattle.rules.specs.Outcome.{ok}
use Rattle.rules.specs.Sheet.{sheet_fault}
use Rattle.rules.specs.Accept.{check_form}
use Rattle.rules.specs.Codes.{check_code}
use Rattle.rules.specs.Calls.{call_split}
use Rattle.rules.specs.Run as Run
use Rattle.rules.specs.declared.Refused.{Refused}
use Rattle.rules.specs.declared.State.{State}
use Rattle.run.specs.Runner.{run_answer, ended}
use Rattle.run_fields.specs.declared.RunAnswer.{RunAnswer}
use Rattle.call_check.specs.Reader.{sheet_code, splitting_of}
use Rattle.call_check.specs.declared.SplitAnswer.{SplitAnswer}
use Rattle.replay.specs.Words.{Stands, StateAt, AnswerAt}
use Rattle.replay.specs.Calls.{CallTold, TextTold}
use Rattle.replay.specs.declared.words.Head.{Head}

-- whether the bytes are well-formed; whether there is a first character, its value and its size
abbrev pub character_words : ℕ → Option Char → List ℕ
character_words valid (Some c) = valid ∷ 1 ∷ c.value ∷ c.size ∷ []
character_words valid None = valid ∷ 0 ∷ 0 ∷ 0 ∷ []

unfoldable pub utf8_words : List ℕ → List ℕ
utf8_words s = character_words (cond (well_formed s) 1 0) (decode_at s 0)

-- the number and the place of each of the two checks
abbrev pub both_words : Refused → Refused → List ℕ
both_words f s = f.number ∷ f.place ∷ s.number ∷ s.place ∷ []

unfoldable pub check_words : List ℕ → List ℕ → List ℕ
check_words form sheet = both_words (check_code (check_form form)) (sheet_code (sheet_fault sheet))

-- the words are those of the item slice
pub record SplitTold (form sheet b words : List ℕ) : Type 0 where
  pub answer : SplitAnswer
  pub items : List ℕ
  pub says : call_split form sheet 1792 ≡ ok (splitting_of answer items)
  pub same : AnswerAt b (answer.number ∷ answer.place ∷ 0 ∷ 0 ∷ 0 ∷ 0 ∷ 0 ∷ []) answer.state
  pub written : Stands words 0 items

-- the words are those of the answer slice
pub record WholeRunTold (form sheet b words : List ℕ) : Type 0 where
  pub answer : RunAnswer
  pub items : List ℕ
  pub answers : List ℕ
  pub list : List ℕ
  pub says : run_answer (Run.run form sheet 1792 8240 192) ≡ ended answer items answers list
  pub same : AnswerAt b (answer.number ∷ answer.place ∷ answer.tries ∷ answer.words ∷ 0 ∷ 0 ∷ 0 ∷ []) answer.state
  pub written : Stands words 0 answers

-- a call on the states that are given
pub record StatesTold (h : Head) (form sheet items given second b words : List ℕ) : Type 0 where
  pub s : State
  pub t : State
  pub first : StateAt given 0 s
  pub other : StateAt second 0 t
  pub told : CallTold h form sheet items s t b words

pub data OnItems (h : Head) (form sheet items given second b words : List ℕ) : Type 0 where
  text : h.call ≡ 4 → TextTold form sheet items h.word b words → OnItems h form sheet items given second b words
  states : StatesTold h form sheet items given second b words → OnItems h form sheet items given second b words

-- a call on the items of the sheet
pub record ItemTold (h : Head) (form sheet given second b words : List ℕ) : Type 0 where
  pub split : SplitAnswer
  pub items : List ℕ
  pub splits : call_split form sheet 1792 ≡ ok (splitting_of split items)
  pub told : OnItems h form sheet items given second b words

pub data AnswerTold (h : Head) (form sheet given second b words : List ℕ) : Type 0 where
  utf8 : h.call ≡ 0 → Stands b 0 (utf8_words form) → AnswerTold h form sheet given second b words
  check : h.call ≡ 1 → Stands b 0 (check_words form sheet) → AnswerTold h form sheet given second b words
  split : h.call ≡ 2 → SplitTold form sheet b words → AnswerTold h form sheet given second b words
  run : h.call ≡ 3 → WholeRunTold form sheet b words → AnswerTold h form sheet given second b words
  items : ItemTold h form sheet given second b words → AnswerTold h form sheet given second b words
