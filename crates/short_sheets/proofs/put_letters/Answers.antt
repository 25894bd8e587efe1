use Rattle.short_sheets.proofs.Writing.{lettered_first, letter_there, lettered_next, lettered_last}
use Rattle.short_sheets.proofs.put_letters.Goals as goal

pub loop-place-init : goal.loop-place-init
loop-place-init c = search lettered_first

pub bounds-alphabet-from : goal.bounds-alphabet-from
bounds-alphabet-from c = search letter_there

pub loop-place-preserved : goal.loop-place-preserved
loop-place-preserved c = search lettered_next

pub returns : goal.returns
returns c = search lettered_last
