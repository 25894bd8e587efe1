-- The number of a kind of node.
use Rattle.std.specs.Prelude.{ℕ, ◌+◌}
use Rattle.form_layout.specs.declared.Kind.{Kind}
use Rattle.form_layout.specs.declared.Kind.TheVariants.{Zero, Flag, Argument, Positional, Optional, Many, AtLeastOne, Count, Last, Choice, Fallback, Guard, Other}

-- document 01's number of a kind, as a form has it. No two kinds have one number
abbrev pub kind_number : Kind → ℕ
kind_number Zero = 0
kind_number Flag = 1
kind_number Argument = 2
kind_number Positional = 3
kind_number Optional = 4
kind_number Many = 5
kind_number AtLeastOne = 6
kind_number Count = 7
kind_number Last = 8
kind_number Choice = 9
kind_number Fallback = 10
kind_number Guard = 11
kind_number (Other n) = n + 12
