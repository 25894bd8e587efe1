-- After the last line nothing is written. Assumes nothing.
use Rattle.short_sheets.proofs.Next.{last_reported, line_there, next_reported}
use Rattle.short_sheets.proofs.step.Goals as goal

pub returns-then-count-gt-ARGUMENTS : goal.returns-then-count-gt-ARGUMENTS
returns-then-count-gt-ARGUMENTS c = search last_reported

pub write_line-requires : goal.write_line-requires
write_line-requires c = search line_there

pub returns : goal.returns
returns c = search next_reported
