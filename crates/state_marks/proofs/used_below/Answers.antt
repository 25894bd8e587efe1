-- A law for each way out. Assumes nothing.
use Rattle.state_marks.proofs.Mark.{unused_below, named_below, field_below}
use Rattle.state_marks.proofs.used_below.Goals as goal

pub returns-then-mark-lt-FIELD : goal.returns-then-mark-lt-FIELD
returns-then-mark-lt-FIELD c = search named_below

pub returns-else-mark-lt-FIELD : goal.returns-else-mark-lt-FIELD
returns-else-mark-lt-FIELD c = search field_below

pub returns-else-is_parsed : goal.returns-else-is_parsed
returns-else-is_parsed c = search unused_below
