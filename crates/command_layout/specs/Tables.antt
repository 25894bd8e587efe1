-- An entry of a table, one of its names, and its form.
use Rattle.std.specs.Prelude.{true, List, ◌≡◌, ℕ, ◌≤◌, ◌<◌, length}
use Rattle.std.proofs.Math.Option.{some}
use Rattle.std.proofs.Math.ListN.{get_elem?}
use Rattle.rules.specs.Outcome.{ok}
use Rattle.rules.specs.Accept.{Accepted}
use Rattle.rules.specs.Commands.{entry_count, offsets_good, entry_names, entry_area, entry_form_at, Command, table_in, forms_in}

-- one of the entries of a table whose offsets are good
pub record HasEntry (t : List ℕ) (k : ℕ) : Type 0 where
  pub good : offsets_good t ≡ true
  pub below : k < entry_count t

-- an entry whose counts are within a form's limits
pub record EntryCounts (e : List ℕ) : Type 0 where
  pub head : 4 ≤ length e
  pub names : entry_names e ≤ 128
  pub area : entry_area e ≤ 4096

-- and that is long enough for its names
pub record EntryFits (e : List ℕ) : Type 0 where
  pub counts : EntryCounts e
  pub fits : entry_form_at e ≤ length e

-- one of its name records
pub record HasRecord (e : List ℕ) (k : ℕ) : Type 0 where
  pub fits : EntryFits e
  pub below : k < entry_names e

-- a table whose offsets and names are good: its commands
pub record HasCommands (t : List ℕ) : Type 0 where
  pub commands : List Command
  pub reads : table_in t ≡ ok commands

-- and whose forms are all accepted
pub record HasForms (t : List ℕ) : Type 0 where
  pub commands : List Command
  pub reads : table_in t ≡ ok commands
  pub forms : List Accepted
  pub accepts : forms_in commands ≡ ok forms

-- the bytes of the form of command k
pub record FormOf (cs : List Command) (k : ℕ) (b : List ℕ) : Type 0 where
  pub command : Command
  pub here : get_elem? cs k ≡ some command
  pub form : command.form ≡ b
