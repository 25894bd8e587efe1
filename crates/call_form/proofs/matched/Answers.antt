-- By the law of `matches`. Assumes nothing.
use Rattle.call_form.proofs.Takes.{matched_says}
use Rattle.call_form.proofs.matched.Goals as goal

pub returns : goal.returns
returns c = matched_says _ _ _ _ _ _ _ _ c.matches-found.ensures c.yes_no.ensures c.answered.ensures
