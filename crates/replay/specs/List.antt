-- A list: the command that made it, then the cases, seven parts each.
use Rattle.std.specs.Prelude.{◌≡◌, true, List, ℕ, ◌+◌, ◌*◌, ◌≤◌}
use Rattle.wire.specs.Wire.{number_at, table_good, entry_of}
use Rattle.replay.specs.Words.{head_of}
use Rattle.replay.specs.Cases.{AnswerTold}

-- a table of n entries, of which seven are there from `at` on
pub record HasCase (list : List ℕ) (n at : ℕ) : Type 0 where
  pub good : table_good 2 n list ≡ true
  pub below : at + 7 ≤ n

-- what the rules say of the case from entry `at` on is what it says
abbrev pub CaseTold : List ℕ → ℕ → ℕ → Type 0
CaseTold list n at =
    AnswerTold
    (head_of (entry_of 2 n list at))
    (entry_of 2 n list (at + 1))
    (entry_of 2 n list (at + 2))
    (entry_of 2 n list (at + 3))
    (entry_of 2 n list (at + 4))
    (entry_of 2 n list (at + 5))
    (entry_of 2 n list (at + 6))

-- case k
abbrev pub case_at : List ℕ → ℕ → Type 0
case_at list k = CaseTold list (number_at 2 list 0) (7 * k + 1)
