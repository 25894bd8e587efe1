-- A record that is all 0, a hole, then the record itself. Assumes nothing.
use Rattle.call_find.proofs.Ends.{turn_zero, turn_hole, turn_next}
use Rattle.call_find.proofs.turn.Goals as goal

pub returns-then-all_zero : goal.returns-then-all_zero
returns-then-all_zero c = search turn_zero

pub returns-then-seen-i : goal.returns-then-seen-i
returns-then-seen-i c = search turn_hole

pub returns : goal.returns
returns c = search turn_next
