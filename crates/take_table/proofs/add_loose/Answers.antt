-- By whether the node is an adjacent argument. Assumes nothing.
use Rattle.take_table.proofs.Owners.{stays_out, goes_in}
use Rattle.take_table.proofs.add_loose.Goals as goal

pub returns-then-is_adjacent : goal.returns-then-is_adjacent
returns-then-is_adjacent c = stays_out _ _ _ _ c.is_adjacent.ensures c.if-is_adjacent.true

pub returns : goal.returns
returns c = goes_in _ _ _ _ c.is_adjacent.ensures c.if-is_adjacent.false _ c.only.ensures _ c.union.ensures
