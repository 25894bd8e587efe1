-- By whether the value is in the item's own word. Assumes nothing.
use Rattle.take_table.proofs.Lookups.{in_own_word, in_next_word}
use Rattle.take_table.proofs.limit.Goals as goal

pub returns-then-own : goal.returns-then-own
returns-then-own c = in_own_word _ _ _ c.if-own.true

pub returns : goal.returns
returns c = in_next_word _ _ _ c.if-own.false
