-- What is known of a line once it is split, and of the form that is chosen.
use Rattle.std.specs.Prelude.{List, ◌≡◌, ℕ, ◌≤◌, ◌<◌, length, get_or, replicate}
use Rattle.std.proofs.Math.Option.{none}
use Rattle.rules.specs.Outcome.{ok}
use Rattle.rules.specs.Sheet.{sheet_area, sheet_fault}
use Rattle.rules.specs.State.{field_mark}
use Rattle.rules.specs.Run.{Line, padded}
use Rattle.rules.specs.Commands.{entry_count, table_letters, split_with}
use Rattle.state_marks.specs.declared.Numbers.{Numbers}
use Rattle.state_marks.specs.Lent.{state_of}
use Rattle.take_search.specs.Items.{Table}
use Rattle.take_search.specs.States.{CanTake}
use Rattle.state_marks.specs.Lent.{Fine}
use Rattle.run.specs.Runner.{LineFits}
use Rattle.command_layout.specs.Tables.{HasForms}

-- a table whose forms are accepted, the line of a sheet by their letters, not refused, its records and its state; answer slice and
-- list are 0
pub record LineSplit (t s words m : List ℕ) (p : Numbers) (o l : List ℕ) : Type 0 where
  pub forms : HasForms t
  pub room : LineFits s (length words) (length o) (length l)
  pub line : Line
  pub splits : split_with (table_letters forms.forms) s ≡ ok line
  pub free : line.refusal ≡ none
  pub written : words ≡ padded (length words) line.records
  pub table : Table (sheet_area s) words line.items
  pub fine : Fine m p
  pub long : length m ≡ 256
  pub count : length line.items ≡ p.count
  pub same : state_of m p ≡ line.state
  pub answers : o ≡ replicate (length o) 0
  pub list : l ≡ replicate (length l) 0

-- entry k of such a table, and a state over the items
pub record FormBegins (t : List ℕ) (k : ℕ) (s words m : List ℕ) (p : Numbers) (o l : List ℕ) : Type 0 where
  pub forms : HasForms t
  pub below : k < entry_count t
  pub made : sheet_fault s ≡ 0
  pub state : CanTake (sheet_area s) words m p (field_mark 0)
  pub room : 8240 ≤ length o
  pub zeros : (j : ℕ) → get_or o j 0 ≡ 0
  pub entries : 192 ≤ length l
