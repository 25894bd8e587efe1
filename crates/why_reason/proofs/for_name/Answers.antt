-- By what the form has. Assumes nothing.
use Rattle.why_reason.proofs.Laws.{name_asked, name_known, name_unknown}
use Rattle.why_reason.proofs.for_name.Goals as goal

pub is_named-requires : goal.is_named-requires
is_named-requires c = search name_asked

pub returns-then-is_named : goal.returns-then-is_named
returns-then-is_named c = search name_known

pub returns : goal.returns
returns c = search name_unknown
