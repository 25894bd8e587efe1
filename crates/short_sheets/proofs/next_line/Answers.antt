-- Read, then counted up. Assumes nothing.
use Rattle.short_sheets.proofs.Lines.{line_made, has_offset, base_narrow, can_count, next_line}
use Rattle.short_sheets.proofs.next_line.Goals as goal

pub count-count-requires : goal.count-count-requires
count-count-requires c = search line_made

pub begin-size-requires : goal.begin-size-requires
begin-size-requires c = search has_offset

pub overflow_cast-alphabet : goal.overflow_cast-alphabet
overflow_cast-alphabet c = record { fits = search base_narrow }

pub count_line-requires : goal.count_line-requires
count_line-requires c = search can_count

pub returns : goal.returns
returns c = search next_line
