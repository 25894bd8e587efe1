-- By the test. Assumes nothing.
use borrow.Author.Tests.{ne_eqb}
use Rattle.split_arg.specs.Items.{part_of}
use Rattle.split_arg.proofs.part_of.Goals as goal

pub returns-then-length-eq0 : goal.returns-then-length-eq0
unfolding part_of
returns-then-length-eq0 c = rw c.if-length-eq0.true

pub returns-else-length-eq0 : goal.returns-else-length-eq0
unfolding part_of
returns-else-length-eq0 c = rw (ne_eqb _ _ c.if-length-eq0.false)
