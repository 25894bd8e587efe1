-- The marks that are written, as the code has them.
use Rattle.std.specs.Prelude.{ℕ}

-- at the first `--`
abbrev pub marker_number : ℕ
marker_number = 510

-- at a word that `take_cmd` takes
abbrev pub command_number : ℕ
command_number = 511
