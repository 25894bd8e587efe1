-- Room for one item, or none. Assumes nothing.
use native.Mathlib.Omega.{arith}
use Rattle.std.specs.Prelude.{None}
use Rattle.split_group.proofs.Stores.{puts_nothing, puts_all}
use Rattle.split_group.proofs.put_one.Goals as goal

pub returns-then-at-eq-ITEMS : goal.returns-then-at-eq-ITEMS
returns-then-at-eq-ITEMS c = puts_nothing _ _ _ 1 None _ c.plain-group.ensures (omega arith)

pub returns : goal.returns
returns c = puts_all _ _ _ _ 1 None _ c.plain-group.ensures c.store_item.ensures (omega (arith, c.if-at-eq-ITEMS.false))
