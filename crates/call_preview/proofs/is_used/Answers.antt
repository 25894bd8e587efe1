-- By the mark before, and then by the mark after. Assumes nothing.
use Rattle.call_preview.proofs.Laws.{not_present, then_parsed}
use Rattle.call_preview.proofs.is_used.Goals as goal

pub returns-then-is_present : goal.returns-then-is_present
returns-then-is_present c = search then_parsed

pub returns-else-is_present : goal.returns-else-is_present
returns-else-is_present c = search not_present
