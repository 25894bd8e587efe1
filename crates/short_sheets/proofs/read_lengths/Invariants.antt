-- Invariant: the first k lengths are stored. Assumes nothing.
use Rattle.wire.proofs.Stores.{Stored}
use Rattle.rules.specs.Sheet.{arguments}
use Rattle.rules_short.specs.Short.{lengths as lengths_of}
use Rattle.short_sheets.proofs.read_lengths.Given as goal

abbrev pub invariant-loop-k : goal.invariant-loop-k
invariant-loop-k l = Stored l.initial.lengths 0 (lengths_of (arguments l.sheet)) l.k-end l.lengths l.k
