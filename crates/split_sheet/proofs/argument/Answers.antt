-- A checked sheet's table has the entry. Assumes nothing.
use Rattle.split_sheet.proofs.Arguments.{has_entry}
use Rattle.split_sheet.proofs.argument.Goals as goal

pub entry-requires : goal.entry-requires
entry-requires c = search has_entry

pub returns : goal.returns
returns c = rw c.count.ensures at c.entry.ensures
