use borrow.Author.Rules.{rules}
use Rattle.call_preview.proofs.Laws.{looking_first, looking_next, found_here, found_none}
use Rattle.call_preview.proofs.next_used.Goals as goal

pub loop-i-init : goal.loop-i-init
loop-i-init c = search looking_first

pub returns-then-is_used : goal.returns-then-is_used
returns-then-is_used c = (search found_here, search rules)

pub loop-i-preserved : goal.loop-i-preserved
loop-i-preserved c = search looking_next

pub returns : goal.returns
returns c = (found_none _ _ _ _ c.loop-i.invariant c.loop-i-test.false, search rules)
