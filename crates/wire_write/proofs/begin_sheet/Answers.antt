-- The slice is cleared, then the count is written. Assumes nothing.
use Rattle.wire_write.proofs.Sheets.{count_fits, sheet_begun}
use Rattle.wire_write.proofs.begin_sheet.Goals as goal

pub put_u16-requires : goal.put_u16-requires
put_u16-requires c = search count_fits

pub returns : goal.returns
returns c = search sheet_begun
