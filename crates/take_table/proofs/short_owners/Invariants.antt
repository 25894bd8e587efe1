-- Invariant: what is left decides. Assumes nothing.
use mathlib.Core.List.{List}
use Prim.Native.Nat.{ℕ}
use Rattle.take_table.specs.Owners.{Lookup}
use Rattle.take_table.proofs.Lookups.{Gathering, is_short}
use Rattle.take_table.proofs.short_owners.Given as goal

abbrev pub invariant-loop-k : goal.invariant-loop-k
invariant-loop-k l = (form : List ℕ) (loose : ℕ) → Lookup form l.codes l.count l.owners loose → Gathering form (is_short form l.character) l.set l.k
