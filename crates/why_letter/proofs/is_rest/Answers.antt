-- By the item before the place. Assumes nothing.
use Rattle.why_letter.proofs.Laws.{rest_first, rest_short, rest_other}
use Rattle.split_arg.proofs.Tags.{tags_not_short}
use Rattle.why_letter.proofs.is_rest.Goals as goal

pub returns-then-i-eq0 : goal.returns-then-i-eq0
returns-then-i-eq0 c = search rest_first

pub returns-in_default : goal.returns-in_default
returns-in_default c =
    let left = tags_not_short c.read_item-item.result c.in_default.not-Short in
    search rest_other

pub returns : goal.returns
returns c = search rest_short
