-- Invariant: the names from k on are as portable as all. Assumes nothing.
use Rattle.form_fields.proofs.Given.{PortableFrom}
use Rattle.form_fields.proofs.is_portable.Given as goal

abbrev pub invariant-loop-k : goal.invariant-loop-k
invariant-loop-k l = PortableFrom l.b l.k
