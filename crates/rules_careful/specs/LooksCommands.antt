-- What holds of a careful run of a table: what it accepts is read as it looks, but for the command word.
use Rattle.std.specs.Prelude.{true, List, ◌⊎◌, ◌≡◌, ℕ, suc}
use Rattle.std.proofs.Math.Option.{some}
use Rattle.std.proofs.Math.ListN.{get_elem?}
use Rattle.rules.specs.Outcome.{ok}
use Rattle.rules.specs.Sheet.{arguments}
use Rattle.rules.specs.Accept.{Accepted}
use Rattle.rules.specs.Split.{Split, split_from}
use Rattle.rules.specs.State.{State, command_mark}
use Rattle.rules.specs.Take.{take_cmd}
use Rattle.rules.specs.Run.{Line}
use Rattle.rules.specs.Commands.{Command, table_in, forms_in, table_forms, table_letters, split_with, candidates_from, CommandReport, run_commands}
use Rattle.rules_careful.specs.Looks.{LooksLike, ReadAsOptions, Misread}
use Rattle.rules_careful.specs.CarefulCommands.{CarefulCommandReport, careful_commands}

-- ---- the command word of a run
-- the name that `take_cmd` matched, at place 0: the last one that was compared, of the entry that is told
pub record CommandWord (table s : List ℕ) (r : CommandReport) (word : List ℕ) : Type 0 where
  pub commands : List Command
  pub forms : List Accepted
  pub tabled : table_in table ≡ ok commands
  pub formed : forms_in commands ≡ ok forms
  pub line : Line
  pub splits : split_with (table_letters forms) s ≡ ok line
  pub before : ℕ
  pub entry : ℕ
  pub name : get_elem? (candidates_from 0 commands) before ≡ some (record { word = word; entry = entry })
  pub compared : r.comparisons ≡ suc before
  pub chosen : r.entry ≡ some entry
  pub state : State
  pub matched : take_cmd command_mark line.items word line.state ≡ ok (record { answer = true; state = state })
  pub place : state.current ≡ some 0

-- ---- what is refused with 50
-- as for one form, by the letters of all forms, behind the command word
pub record MisreadCommand (table s : List ℕ) (na nl : ℕ) (r : CommandReport) (x : CarefulCommandReport) : Type 0 where
  pub forms : List Accepted
  pub formed : table_forms table ≡ ok forms
  pub word : List ℕ
  pub command : CommandWord table s r word
  pub misread : Misread (table_letters forms) 1 s na nl r.report x.report.report x.letter
  pub comparisons : x.report.comparisons ≡ r.comparisons
  pub entry : x.report.entry ≡ r.entry

-- Every input is answered: with 50, or as the run answers. Accepted, every argument that looks like options was read as options, or is the
-- first one and the command word
pub record LooksCommands (table s : List ℕ) (ni na nl : ℕ) : Type 0 where
  pub report : CommandReport
  pub ran : run_commands table s ni na nl ≡ ok report
  pub answer : CarefulCommandReport
  pub answered : careful_commands table s ni na nl ≡ ok answer
  pub number : (answer.report.report.number ≡ 50) ⊎ ((answer.report ≡ report) × (answer.letter ≡ 0))
  pub accepted :
      answer.report.report.number ≡ 0
      → (forms : List Accepted)
      → table_forms table ≡ ok forms
      → (x : Split)
      → split_from (table_letters forms) 0 (arguments s) ≡ ok x
      → (k : ℕ) (os : List ℕ)
      → LooksLike (arguments s) k os
      → ReadAsOptions x k ⊎ ((k ≡ 0) × CommandWord table s report os)
  pub misread : answer.report.report.number ≡ 50 → MisreadCommand table s na nl report answer
