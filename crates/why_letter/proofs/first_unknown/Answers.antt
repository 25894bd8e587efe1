use borrow.Author.Rules.{rules}
use Rattle.why_letter.proofs.Laws.{seeking_first, seeking_end, seeking_hit, seeking_next, letter_fits, seeking_less}
use Rattle.why_letter.proofs.first_unknown.Goals as goal

pub loop-letter-init : goal.loop-letter-init
loop-letter-init c = search seeking_first

pub returns-in_default : goal.returns-in_default
returns-in_default c = search seeking_end

pub returns-then-not-is_known : goal.returns-then-not-is_known
returns-then-not-is_known c = search seeking_hit

pub overflow_add-at : goal.overflow_add-at
overflow_add-at c = search (letter_fits, rules)

pub loop-letter-smaller : goal.loop-letter-smaller
loop-letter-smaller c = search (seeking_less, rules)

pub loop-letter-preserved : goal.loop-letter-preserved
loop-letter-preserved c = search seeking_next
