use borrow.Author.Rules.{rules}
use mathlib.Core.Path.{refl}
use Rattle.careful_batch.proofs.Ends.{batch_head, sheet_there, none_looked, has_part, next_looked, all_looked}
use Rattle.careful_batch.proofs.look_sheets.Goals as goal

pub sheet_count-k-end-requires : goal.sheet_count-k-end-requires
sheet_count-k-end-requires c = search batch_head

pub loop-k-init : goal.loop-k-init
loop-k-init c = (c.sheet_count-k-end.ensures, refl, refl, none_looked _ _ _ _)

pub sheet_at-sheet-requires : goal.sheet_at-sheet-requires
sheet_at-sheet-requires c = search sheet_there

pub look_part-requires : goal.look_part-requires
look_part-requires c = search has_part

pub loop-k-preserved : goal.loop-k-preserved
loop-k-preserved c = (search rules, search rules, search rules, search next_looked)

pub returns : goal.returns
returns c = search all_looked
