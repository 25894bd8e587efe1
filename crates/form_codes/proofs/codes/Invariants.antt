-- Invariant: the first k codes are stored. Assumes nothing.
use Rattle.form_codes.proofs.NameCodes.{StoringCodes}
use Rattle.form_codes.proofs.codes.Given as goal

abbrev pub invariant-loop-k : goal.invariant-loop-k
invariant-loop-k l = StoringCodes l.form l.initial.out l.count l.out l.k
