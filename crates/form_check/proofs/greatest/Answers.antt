use native.Mathlib.Omega.{arith}
use Rattle.form_check.proofs.Climbing.{greatest_step, greatest_end}
use Rattle.form_check.proofs.greatest.Goals as goal

pub loop-c-preserved : goal.loop-c-preserved
loop-c-preserved c =
    let step = greatest_step c.args.codes.now c.loop-c.c-index (omega (arith, c.loop-c-test.true, c.requires)) in
    omega (arith, step, c.loop-c.invariant, c.max-most.ensures)

pub returns : goal.returns
returns c =
    let end = greatest_end c.args.codes.now c.loop-c.c-index (omega (arith, c.loop-c-test.false, c.requires)) in
    omega (arith, end, c.loop-c.invariant)
