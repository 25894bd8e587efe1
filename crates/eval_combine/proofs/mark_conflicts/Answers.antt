-- By whether a place decided. Assumes nothing.
use Prim.Native.Nat.{◌<◌}
use native.Mathlib.Omega.{arith}
use Rattle.eval_combine.proofs.Choices.{marks_kept, marks_saved}
use Rattle.eval_combine.proofs.mark_conflicts.Goals as goal

pub save_conflicts-requires : goal.save_conflicts-requires
save_conflicts-requires c =
    let m = c.requires.marked in
    let h : c.in-Some.w < c.args.count = rw c.in-Some.is at c.requires.within in
    (m.ours, m.theirs, m.small, omega (arith, m.small, h))

pub returns-in-Some : goal.returns-in-Some
returns-in-Some c = search marks_saved

pub returns-in_default : goal.returns-in_default
returns-in_default c = search marks_kept
