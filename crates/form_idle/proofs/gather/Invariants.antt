-- Invariant: the table says of the first k nodes what they may, and the sum has the bits of those found.
use Rattle.form_idle.proofs.Gathering.{Gathered}
use Rattle.form_idle.proofs.gather.Given as goal

abbrev pub invariant-loop-k : goal.invariant-loop-k
invariant-loop-k l = Gathered l.b l.count l.k l.table l.found
