-- By the laws of the calls on two states. Assumes nothing.
use Rattle.call_state.proofs.Entries.{both_fine, adjacent_bad, adjacent_some, adjacent_none}
use Rattle.std.proofs.Math.Path.{ap}
use mathlib.Core.Bool.{not}
use Rattle.call_state.proofs.adjacent_scope.Goals as goal

pub returns-then-not-both_good : goal.returns-then-not-both_good
returns-then-not-both_good c = search adjacent_bad

pub adjacent_scope-requires : goal.adjacent_scope-requires
adjacent_scope-requires c = both_fine _ _ _ c.both_good.ensures (ap not c.if-not-both_good.false)

pub returns-in-Some : goal.returns-in-Some
returns-in-Some c = search adjacent_some

pub returns-in-None : goal.returns-in-None
returns-in-None c = search adjacent_none
