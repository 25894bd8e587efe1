-- The tests before a step, in the order of the refusals.
use Rattle.std.specs.Prelude.{not, List, ℕ, ltb}
use Rattle.std.specs.Prelude.{if◌then◌else◌}
use Rattle.rules_short.specs.Short.{alphabet_good, sheet_legal}

-- 0, or the first test that the input does not pass
unfoldable pub input_fault : List ℕ → List ℕ → ℕ → ℕ
input_fault al s n = if not (alphabet_good al) then 16 else (if not (sheet_legal al s) then 17 else (if ltb n 22 then 19 else 0))
