-- What the careful run of a table hands back, and the letter of a word that it refuses.
use Rattle.std.specs.Prelude.{true, List, ◌≡◌, ℕ, length}
use Rattle.std.proofs.Math.Option.{Option, some, none}
use Rattle.rules.specs.Outcome.{Outcome, ok, refused, fault}
use Rattle.rules.specs.Sheet.{arguments}
use Rattle.rules.specs.Split.{Split}
use Rattle.rules.specs.Codes.{place_code}
use Rattle.rules.specs.Calls.{to_raw}
use Rattle.rules.specs.Commands.{table_letters, run_commands}
use Rattle.rules_careful.specs.Careful.{is_misread, misread_letter}
use Rattle.rules_careful.specs.CarefulCommands.{CarefulCommandReport, careful_commands}
use Rattle.state_marks.specs.Lent.{raw_of}
use Rattle.command_layout.specs.Tables.{HasForms}
use Rattle.command_run.specs.declared.Commanded.{Commanded}
use Rattle.command_run.specs.Commanded.{commands_answer, commanded_as}
use Rattle.std.specs.Prelude.{Option as CodeOption}
use Rattle.why_letter.specs.Withdrawn.{SmallLetter}
use Rattle.careful_words.specs.Looking.{LineIs}
use Rattle.careful.specs.declared.Looked.{Looked}
use Rattle.careful.specs.Looked.{letter_code}
use Rattle.careful_commands.specs.declared.CarefulCommandAnswer.{CarefulCommandAnswer}

-- ---- the letter of a place
-- a place of a line by the letters of a table, whose word is misread
pub record MisreadPlace (t s words : List ℕ) (i : ℕ) : Type 0 where
  pub forms : HasForms t
  pub given : Split
  pub count : ℕ
  pub line : LineIs s words count (table_letters forms.forms) given
  pub misread : is_misread (arguments s) given.groups i ≡ true

pub record MisreadTold (t s words : List ℕ) (i : ℕ) (r : CodeOption ℕ) : Type 0 where
  pub letter : SmallLetter r
  pub same : (p : MisreadPlace t s words i) → misread_letter (table_letters p.forms.forms) (arguments s) p.given.groups i ≡ letter_code r

-- ---- a run whose words are looked at
-- the slices and the numbers are those that some run of the table left
pub record CanLookAtTable (table sheet items answers : List ℕ) (r : Commanded) : Type 0 where
  pub items₀ : ℕ
  pub answers₀ : ℕ
  pub list₀ : ℕ
  pub marks : List ℕ
  pub list : List ℕ
  pub ran : commands_answer (run_commands table sheet items₀ answers₀ list₀) ≡ commanded_as r marks items answers list

-- ---- what the call hands back
-- the answer, and what the three slices hold
pub record CarefulEnded : Type 0 where
  pub answer : CarefulCommandAnswer
  pub items : List ℕ
  pub answers : List ℕ
  pub list : List ℕ

-- a fault has no answer
unfoldable pub careful_commands_answer : Outcome CarefulCommandReport → Option CarefulEnded
careful_commands_answer (ok x) = some (record {
  answer = record {
    number = x.report.report.number;
    place = place_code x.report.report.place;
    tries = x.report.report.tries;
    words = length x.report.report.words;
    comparisons = x.report.comparisons;
    entry = place_code x.report.entry;
    letter = x.letter;
    state = to_raw x.report.report.state;
  };
  items = x.report.report.items;
  answers = x.report.report.answers;
  list = x.report.report.list;
})
careful_commands_answer (refused e) = none
careful_commands_answer (fault e) = none

-- what the run of a table told, with what was seen
abbrev pub seen_in : Looked → Commanded → List ℕ → CarefulCommandAnswer
seen_in q r marks = record {
  number = q.number;
  place = q.place;
  tries = r.reached.tries;
  words = q.words;
  comparisons = r.comparisons;
  entry = r.entry;
  letter = q.letter;
  state = raw_of marks r.reached.numbers;
}

-- whatever marks and list the run left, this is the careful run
pub record LooksAtTableRun (table sheet items answers : List ℕ) (r : Commanded) (after : List ℕ) (q : Looked) : Type 0 where
  pub same : (ni na nl : ℕ) (marks list : List ℕ)
      → commands_answer (run_commands table sheet ni na nl) ≡ commanded_as r marks items answers list
      → careful_commands_answer (careful_commands table sheet ni na nl) ≡ some (record { answer = seen_in q r marks; items = items; answers = after; list = list })
