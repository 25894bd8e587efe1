use mathlib.Core.Path.{◌≡◌, sym, ◌∙◌}
use native.Mathlib.Omega.{arith}
use lib.ListN.{length}
use Rattle.split_arg.proofs.Equals.{equals_end, equals_here, equals_later}
use Rattle.split_arg.proofs.find_equals.Goals as goal

pub returns-then-os-i-eq61 : goal.returns-then-os-i-eq61
returns-then-os-i-eq61 c = sym (c.loop-i.invariant ∙ equals_here _ _ c.loop-i-test.true c.if-os-i-eq61.true)

pub loop-i-preserved : goal.loop-i-preserved
loop-i-preserved c = c.loop-i.invariant ∙ equals_later _ _ c.loop-i-test.true c.if-os-i-eq61.false

pub returns : goal.returns
returns c =
    let end : c.loop-i.i ≡ length c.args.os.now = omega (arith, c.loop-i.auto.i-end c.requires) in
    sym (c.loop-i.invariant ∙ equals_end _ _ c.loop-i-test.false ∙ end)
