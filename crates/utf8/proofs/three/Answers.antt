-- Each test of the code is a test of the row. Assumes nothing.
use Rattle.std.proofs.Common.{arith}
use borrow.Author.Tests.{le-leb, lt-leb}
use Rattle.utf8.specs.Utf8.{holds, fits, scalar, continued, lead_bits}
use Rattle.utf8.specs.Laws.{after_lead}
use Rattle.utf8.proofs.three.Goals as goal

pub returns-then-b2-le191 : goal.returns-then-b2-le191
unfolding after_lead fits holds scalar continued lead_bits
returns-then-b2-le191 c = rw (le-leb _ _ c.if-lo-b1.true, le-leb _ _ c.if-b1-hi.true, le-leb _ _ c.if-b2-ge128.true, le-leb _ _ c.if-b2-le191.true)

pub returns : goal.returns
unfolding after_lead fits holds scalar continued lead_bits
returns c = grind (arith, le-leb, lt-leb)
