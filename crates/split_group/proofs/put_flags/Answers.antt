-- Room for all letters, or none. Assumes nothing.
use native.Mathlib.Omega.{arith}
use Rattle.std.specs.Prelude.{None}
use Rattle.split_group.proofs.Stores.{puts_nothing, puts_all}
use Rattle.split_group.proofs.put_flags.Goals as goal

pub returns-then-at-before : goal.returns-then-at-before
returns-then-at-before c = puts_nothing _ _ _ _ None _ c.plain-group.ensures (omega arith)

pub returns : goal.returns
returns c = puts_all _ _ _ _ _ None _ c.plain-group.ensures c.write_flags.ensures (omega (arith, c.requires.places))
