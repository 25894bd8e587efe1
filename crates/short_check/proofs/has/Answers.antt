use Rattle.short_check.proofs.Letters.{seek_here, seek_next, seek_end}
use Rattle.short_check.proofs.has.Goals as goal

pub returns-then-y-x : goal.returns-then-y-x
returns-then-y-x c = seek_here _ _ _ c.loop-y.invariant c.loop-y-test.true c.if-y-x.true

pub loop-y-preserved : goal.loop-y-preserved
loop-y-preserved c = seek_next _ _ _ c.loop-y.invariant c.loop-y-test.true c.if-y-x.false

pub returns : goal.returns
returns c = seek_end _ _ _ c.loop-y.invariant c.loop-y-test.false
