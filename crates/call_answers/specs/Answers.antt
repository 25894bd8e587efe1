-- The numbers that a single call hands back, for what the rules give.
use Rattle.std.specs.Prelude.{Bool, true, false, ℕ}
use Rattle.std.proofs.Math.Option.{Option, some, none}
use Rattle.rules.specs.Outcome.{Outcome, ok, refused, fault}
use Rattle.rules.specs.Codes.{place_code}
use Rattle.rules.specs.State.{Conflict, Picked, Scope}
use Rattle.rules.specs.Take.{Taken, Operand}
use Rattle.rules.specs.Calls.{Called}
use Rattle.rules.specs.declared.State.{State as Raw}
use Rattle.std.specs.Prelude.{Option as CodeOption, Some, None}
use Rattle.utf8.specs.declared.Char.{Char}
use Rattle.call_answers.specs.declared.Answer.{Answer}
use Rattle.call_answers.specs.declared.StateAnswer.{StateAnswer}
use Rattle.call_answers.specs.declared.Decoding.{Decoding}

-- an answer in three numbers
pub record Coded : Type 0 where
  pub found : ℕ
  pub first : ℕ
  pub second : ℕ

abbrev pub coded : ℕ → ℕ → ℕ → Coded
coded a b c = record { found = a; first = b; second = c }

-- yes 1, no 0
abbrev pub yes_no : Bool → ℕ
yes_no true = 1
yes_no false = 0

abbrev pub yes_code : Bool → Coded
yes_code b = coded (yes_no b) 0 0

-- whether the first wins, and the place plus 1
abbrev pub pick_code : Picked → Coded
pick_code p = coded (yes_no p.first) (place_code p.place) 0

abbrev pub scope_code : Scope → Coded
scope_code s = coded 1 s.start s.end

abbrev pub scope_or_none : Option Scope → Coded
scope_or_none none = coded 0 0 0
scope_or_none (some s) = scope_code s

-- the place and the winner
abbrev pub conflict_code : Option Conflict → Coded
conflict_code none = coded 0 0 0
conflict_code (some c) = coded 1 c.place c.winner

-- the value's place
abbrev pub taken_code : Option Taken → Coded
taken_code none = coded 0 0 0
taken_code (some t) = coded 1 t.place 0

-- the place, and whether it is a PosWord
abbrev pub operand_code : Operand → Coded
operand_code x = coded 1 x.place (yes_no x.strict)

abbrev pub place_or_none : Option ℕ → Coded
place_or_none none = coded 0 0 0
place_or_none (some i) = coded 1 i 0

-- refused, the three numbers are 0
unfoldable pub coded_or0 : {A : Type 0} → (A → Coded) → Option A → Coded
coded_or0 code none = coded 0 0 0
coded_or0 code (some a) = code a

abbrev pub answer_with : ℕ → ℕ → Coded → Answer
answer_with number place c = record
    { number = number; place = place; found = c.found; first = c.first; second = c.second }

abbrev pub state_with : ℕ → ℕ → Coded → Raw → StateAnswer
state_with number place c x = record
    { number = number; place = place; found = c.found; first = c.first; second = c.second; state = x }

-- from a call on a state that is left as it was
unfoldable pub answer_of : {A : Type 0} → (A → Coded) → Outcome (Called A) → Option Answer
answer_of code (ok c) = some (answer_with c.number (place_code c.place) (coded_or0 code c.answer))
answer_of code (refused e) = none
answer_of code (fault x) = none

-- from a call that has no state
unfoldable pub plain_answer : {A : Type 0} → (A → Coded) → Outcome A → Option Answer
plain_answer code (ok a) = some (answer_with 0 0 (code a))
plain_answer code (refused e) = some (answer_with e.number (place_code e.place) (coded 0 0 0))
plain_answer code (fault x) = none

-- from a call that changes the state
unfoldable pub state_answer_of : {A : Type 0} → (A → Coded) → Outcome (Called A) → Option StateAnswer
state_answer_of code (ok c) = some (record {
  number = c.number;
  place = place_code c.place;
  found = (coded_or0 code c.answer).found;
  first = (coded_or0 code c.answer).first;
  second = (coded_or0 code c.answer).second;
  state = c.state;
})
state_answer_of code (refused e) = none
state_answer_of code (fault x) = none

-- a character and its size, or none
abbrev pub decoding : CodeOption Char → Decoding
decoding (Some c) = record { found = true; character = c.value; size = c.size }
decoding None = record { found = false; character = 0; size = 0 }
