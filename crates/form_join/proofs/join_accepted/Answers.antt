-- The limits, then the form. Assumes nothing.
use native.Mathlib.Omega.{arith}
use Rattle.form_join.proofs.Answering.{both_good, can_join, large_reported, joined_reported}
use Rattle.form_join.proofs.join_accepted.Goals as goal

pub counts_both-c-requires : goal.counts_both-c-requires
counts_both-c-requires c = search both_good

pub write_joined-requires : goal.write_joined-requires
write_joined-requires c = search can_join

pub returns-then-fits : goal.returns-then-fits
returns-then-fits c = search joined_reported

pub refuse-requires : goal.refuse-requires
refuse-requires c = rw c.from.ensures (omega arith)

pub returns : goal.returns
returns c = large_reported _ _ c.requires _ _ c.counts_both-c.ensures _ c.fits.ensures c.if-fits.false _ _ (rw c.from.ensures at c.refuse.ensures)
