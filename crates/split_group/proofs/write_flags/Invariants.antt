-- Invariant: the first k letters are written, and the others follow. Assumes nothing.
use Rattle.split_group.proofs.Flags.{WroteFlags}
use Rattle.split_group.proofs.write_flags.Given as goal

abbrev pub invariant-loop-k : goal.invariant-loop-k
invariant-loop-k l = WroteFlags l.name l.count l.initial.text l.initial.items l.at l.items l.text l.place l.k
