-- Letters, then the sheet. Assumes nothing.
use Rattle.short_sheets.proofs.Lines.{part_there}
use Rattle.short_sheets.proofs.Next.{writes_line}
use borrow.Author.Rules.{rules}
use Rattle.short_sheets.proofs.write_line.Goals as goal

pub slice_bounds-write_sheet-end : goal.slice_bounds-write_sheet-end
slice_bounds-write_sheet-end c = search (part_there, rules)

pub returns : goal.returns
returns c = search writes_line
