-- A careful run of a table of commands: as the table's run, but an argument that looks like options is not taken for a word, unless it is
-- the command word.
use Rattle.std.specs.Prelude.{List, ℕ, eqb}
use Rattle.std.specs.Prelude.{if◌then◌else◌}
use Rattle.rules.specs.Outcome.{Outcome, ok, ◌>>=◌}
use Rattle.rules.specs.Sheet.{arguments}
use Rattle.rules.specs.Split.{split_from}
use Rattle.rules.specs.Commands.{table_forms, table_letters, CommandReport, run_commands}
use Rattle.rules_careful.specs.Careful.{CarefulReport, look_at}

-- what is reported, and the letter of a word that is refused
pub record CarefulCommandReport : Type 0 where
  pub report : CommandReport
  pub letter : ℕ

-- comparisons and entry are those of the run
unfoldable pub looked_at : CommandReport → CarefulReport → CarefulCommandReport
looked_at r x = record {
  report = record { report = x.report; comparisons = r.comparisons; entry = r.entry };
  letter = x.letter;
}

-- Table bytes, sheet bytes, and the lengths of the item slice, the answer slice and the list slice. The command word stands at place 0
-- (`commands_demand3`), so the places from 1 on are looked at
unfoldable pub careful_commands : (table sheet : List ℕ) (ni na nl : ℕ) → Outcome CarefulCommandReport
careful_commands t s ni na nl =
    run_commands t s ni na nl >>= λ r.
    if eqb r.report.number 0
    then (table_forms t >>= λ fs.
    split_from (table_letters fs) 0 (arguments s) >>= λ x.
    ok (looked_at r (look_at (table_letters fs) 1 (arguments s) x.groups na nl r.report)))
    else ok (record { report = r; letter = 0 })
