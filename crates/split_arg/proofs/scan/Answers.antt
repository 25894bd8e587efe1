use borrow.Author.Tests.{eq-eqb, ne_eqb}
use borrow.Author.Rules.{rules}
use Rattle.split_arg.proofs.LookUp.{contains_end, contains_step}
use Rattle.split_arg.proofs.scan.Goals as goal

pub returns-then-s-i : goal.returns-then-s-i
returns-then-s-i c = rw (c.loop-i.invariant.1, contains_step _ _ _ c.loop-i-test.true, eq-eqb _ _ c.if-s-i.true)

pub loop-i-preserved : goal.loop-i-preserved
loop-i-preserved c = (search rules, rw (c.loop-i.invariant.1, contains_step _ _ _ c.loop-i-test.true, ne_eqb _ _ c.if-s-i.false))

pub returns : goal.returns
returns c = rw (c.loop-i.invariant.1, contains_end _ _ _ c.loop-i-test.false)
