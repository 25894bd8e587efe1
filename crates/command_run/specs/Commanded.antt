-- What the run of a table of commands hands back, for what the rules report.
use Rattle.std.specs.Prelude.{List, ℕ, length}
use Rattle.std.proofs.Math.Option.{Option, some, none}
use Rattle.rules.specs.Outcome.{Outcome, ok, refused, fault}
use Rattle.rules.specs.Codes.{place_code}
use Rattle.rules.specs.Commands.{CommandReport}
use Rattle.state_marks.specs.Lent.{raw_of}
use Rattle.run.specs.Runner.{Ended as RunEnded, run_answer, LineFits}
use Rattle.command_layout.specs.Tables.{HasForms}
use Rattle.command_run.specs.declared.CommandAnswer.{CommandAnswer}
use Rattle.command_run.specs.declared.Commanded.{Commanded}

-- the answer, and what the three slices hold
pub record Ended : Type 0 where
  pub answer : CommandAnswer
  pub items : List ℕ
  pub answers : List ℕ
  pub list : List ℕ

-- a run's answer, with the comparisons made and the entry told
abbrev pub with_command : ℕ → ℕ → RunEnded → Ended
with_command comparisons entry e = record {
  answer = record {
    number = e.answer.number;
    place = e.answer.place;
    tries = e.answer.tries;
    words = e.answer.words;
    comparisons = comparisons;
    entry = entry;
    state = e.answer.state;
  };
  items = e.items;
  answers = e.answers;
  list = e.list;
}

-- a fault has no answer
unfoldable pub commands_answer : Outcome CommandReport → Option Ended
commands_answer (ok x) = elim (run_answer (ok x.report)) [
  | none ↦ none
  | some e ↦ some (with_command x.comparisons (place_code x.entry) e)
]
commands_answer (refused e) = none
commands_answer (fault x) = none

-- what was reached, with the marks that are left
abbrev pub commanded_as : Commanded → List ℕ → List ℕ → List ℕ → List ℕ → Option Ended
commanded_as r m items answers list = some (record {
  answer = record {
    number = r.reached.number;
    place = r.reached.place;
    tries = r.reached.tries;
    words = r.reached.words;
    comparisons = r.comparisons;
    entry = r.entry;
    state = raw_of m r.reached.numbers;
  };
  items = items;
  answers = answers;
  list = list;
})

-- ---- what is known once every test is passed
pub record CheckedTable (table sheet items answers list : List ℕ) : Type 0 where
  pub forms : HasForms table
  pub line : LineFits sheet (length items) (length answers) (length list)
