use native.Mathlib.Omega.{arith}
use Rattle.form_layout.proofs.Sizes.{names_few}
use Rattle.take_search.proofs.NameLaws.{scanning_first, scanning_next, scanning_hit, scanning_last}
use Rattle.take_search.proofs.has_long.Goals as goal

pub overflow_add-k-end : goal.overflow_add-k-end
overflow_add-k-end c = record { fits = omega (arith, c.requires, names_few _ c.requires.0) }

pub loop-k-init : goal.loop-k-init
loop-k-init c = search scanning_first

pub returns-then-is_long : goal.returns-then-is_long
returns-then-is_long c = search scanning_hit

pub loop-k-preserved : goal.loop-k-preserved
loop-k-preserved c = search scanning_next

pub returns : goal.returns
returns c = search scanning_last
