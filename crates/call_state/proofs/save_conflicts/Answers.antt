-- By the laws of the calls on two states. Assumes nothing.
use borrow.Author.Rules.{rules}
use Rattle.call_state.proofs.Entries.{both_fine, conflicts_bad, conflicts_past, conflicts_done}
use Rattle.std.proofs.Math.Path.{ap}
use mathlib.Core.Bool.{not}
use mathlib.Core.Path.{refl}
use Rattle.call_state.proofs.save_conflicts.Goals as goal

pub returns-then-not-both_good : goal.returns-then-not-both_good
returns-then-not-both_good c = search conflicts_bad

pub returns-then-s-winner : goal.returns-then-s-winner
returns-then-s-winner c = conflicts_past _ _ _ c.both_good.ensures (ap not c.if-not-both_good.false) _ _ refl _ c.if-s-winner.true c.unchanged-then-s-winner.ensures

pub save_conflicts-requires : goal.save_conflicts-requires
save_conflicts-requires c = let r = both_fine _ _ _ c.both_good.ensures (ap not c.if-not-both_good.false) in (r.0, r.1, r.2, search rules)

pub returns : goal.returns
returns c =
    conflicts_done _ _ _ c.both_good.ensures (ap not c.if-not-both_good.false) _ _ refl _ _ c.if-s-winner.false c.save_conflicts.ensures
    c.changed.ensures
