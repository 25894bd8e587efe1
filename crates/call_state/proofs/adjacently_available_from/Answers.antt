-- By the laws of the calls on one state. Assumes nothing.
use borrow.Author.Rules.{rules}
use Rattle.call_state.proofs.Entries.{in_fine, available_bad, available_past, available_done}
use Rattle.call_state.proofs.adjacently_available_from.Goals as goal

pub returns-then-not-good : goal.returns-then-not-good
returns-then-not-good c = search available_bad

pub returns-then-count-from : goal.returns-then-count-from
returns-then-count-from c = search available_past

pub adjacently_available_from-scope-requires : goal.adjacently_available_from-scope-requires
adjacently_available_from-scope-requires c = (search in_fine, search rules)

pub returns : goal.returns
returns c = search available_done
