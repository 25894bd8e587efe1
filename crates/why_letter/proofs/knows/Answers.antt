use borrow.Author.Tests.{eq-eqb, ne_eqb}
use Rattle.split_arg.proofs.LookUp.{contains_end, contains_step}
use Rattle.why_letter.proofs.knows.Goals as goal

pub returns-then-known-letter : goal.returns-then-known-letter
returns-then-known-letter c = rw (c.loop-known.invariant, contains_step _ _ _ c.loop-known-test.true, eq-eqb _ _ c.if-known-letter.true)

pub loop-known-preserved : goal.loop-known-preserved
loop-known-preserved c = rw (c.loop-known.invariant, contains_step _ _ _ c.loop-known-test.true, ne_eqb _ _ c.if-known-letter.false)

pub returns : goal.returns
returns c = rw (c.loop-known.invariant, contains_end _ _ _ c.loop-known-test.false)
