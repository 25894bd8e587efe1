use mathlib.Core.Path.{◌∙◌}
use native.Mathlib.Omega.{arith}
use borrow.Author.Tests.{lt-leb}
use Rattle.command_check.proofs.Steps.{other_type, good_type}
use Rattle.command_check.proofs.name_good.Goals as goal

pub returns-then-x-le-LONG : goal.returns-then-x-le-LONG
returns-then-x-le-LONG c = search good_type

pub returns-else-x-le-LONG : goal.returns-else-x-le-LONG
returns-else-x-le-LONG c = lt-leb _ 1 (omega arith) ∙ other_type _ _ (omega arith)
