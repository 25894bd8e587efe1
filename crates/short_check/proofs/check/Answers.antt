-- The tests in order. Assumes nothing.
use Rattle.short_check.proofs.Legal.{alphabet_bad, sheet_other, output_short, input_good}
use Rattle.short_check.proofs.check.Goals as goal

pub returns-then-not-alphabet_good : goal.returns-then-not-alphabet_good
returns-then-not-alphabet_good c = search alphabet_bad

pub returns-then-not-sheet_legal : goal.returns-then-not-sheet_legal
returns-then-not-sheet_legal c = search sheet_other

pub returns-then-room-lt-SHEET : goal.returns-then-room-lt-SHEET
returns-then-room-lt-SHEET c = search output_short

pub returns : goal.returns
returns c = search input_good
