-- What the careful run hands back.
use Rattle.std.specs.Prelude.{List, ◌≡◌, ℕ, length}
use Rattle.std.proofs.Math.Option.{Option, some, none}
use Rattle.rules.specs.Outcome.{Outcome, ok, refused, fault}
use Rattle.rules.specs.Codes.{place_code}
use Rattle.rules.specs.Calls.{to_raw}
use Rattle.rules.specs.Run.{run}
use Rattle.rules_careful.specs.Careful.{CarefulReport, careful}
use Rattle.state_marks.specs.Lent.{raw_of}
use Rattle.run_fields.specs.declared.Reached.{Reached}
use Rattle.run.specs.Runner.{run_answer, ended, answer_of}
use Rattle.std.specs.Prelude.{Option as CodeOption}
use Rattle.why_letter.specs.Withdrawn.{letter_of}
use Rattle.careful.specs.declared.CarefulAnswer.{CarefulAnswer}
use Rattle.careful.specs.declared.Looked.{Looked}

-- ---- a letter as a number
unfoldable pub letter_code : CodeOption ℕ → ℕ
letter_code x = place_code (letter_of x)

-- ---- a run whose words are looked at
abbrev pub as_run : Reached → Looked
as_run r = record { number = r.number; place = r.place; words = r.words; letter = 0 }

-- the slices and the numbers are those that some run left
pub record CanLook (form sheet items answers : List ℕ) (r : Reached) : Type 0 where
  pub items₀ : ℕ
  pub answers₀ : ℕ
  pub list₀ : ℕ
  pub marks : List ℕ
  pub list : List ℕ
  pub ran : run_answer (run form sheet items₀ answers₀ list₀) ≡ ended (answer_of r marks) items answers list

-- ---- what the call hands back
-- the answer, and what the three slices hold
pub record CarefulEnded : Type 0 where
  pub answer : CarefulAnswer
  pub items : List ℕ
  pub answers : List ℕ
  pub list : List ℕ

-- a fault has no answer
unfoldable pub careful_answer : Outcome CarefulReport → Option CarefulEnded
careful_answer (ok x) = some (record {
  answer = record {
    number = x.report.number;
    place = place_code x.report.place;
    tries = x.report.tries;
    words = length x.report.words;
    letter = x.letter;
    state = to_raw x.report.state;
  };
  items = x.report.items;
  answers = x.report.answers;
  list = x.report.list;
})
careful_answer (refused e) = none
careful_answer (fault e) = none

-- a run's tries and state, with what was seen
abbrev pub seen_in : Looked → Reached → List ℕ → CarefulAnswer
seen_in q r marks = record {
  number = q.number;
  place = q.place;
  tries = r.tries;
  words = q.words;
  letter = q.letter;
  state = raw_of marks r.numbers;
}

-- whatever marks and list the run left, this is the careful run
pub record LooksAtRun (form sheet items answers : List ℕ) (r : Reached) (after : List ℕ) (q : Looked) : Type 0 where
  pub same : (ni na nl : ℕ) (marks list : List ℕ)
      → run_answer (run form sheet ni na nl) ≡ ended (answer_of r marks) items answers list
      → careful_answer (careful form sheet ni na nl) ≡ some (record { answer = seen_in q r marks; items = items; answers = after; list = list })
