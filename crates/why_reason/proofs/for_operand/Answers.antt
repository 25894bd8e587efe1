-- By what the form has, and then by the letter. Assumes nothing.
use Rattle.why_reason.proofs.Laws.{explain_long, operand_nobody, operand_letter, operand_none}
use Rattle.why_reason.proofs.for_operand.Goals as goal

pub has_positional-requires : goal.has_positional-requires
has_positional-requires c = search explain_long

pub returns-then-not-has_positional : goal.returns-then-not-has_positional
returns-then-not-has_positional c = search operand_nobody

pub returns-in_default : goal.returns-in_default
returns-in_default c = search operand_none

pub returns : goal.returns
returns c = search operand_letter
