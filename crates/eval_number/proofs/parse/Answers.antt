-- The part behind the first byte is the rest of the list. Assumes nothing.
use Rattle.std.proofs.Common.{◌∙◌, rules}
use Rattle.eval_number.specs.Number.{number_short, number_plus, number_plain}
use Rattle.eval_number.proofs.parse.Goals as goal
use Rattle.eval_number.proofs.parse.Goals.{in_default-via-then-text-lt1, in_default-via-else-text-lt1+in_default-1}

pub returns-in-43 : goal.returns-in-43
returns-in-43 c = c.unsigned.ensures ∙ number_plus _ (search rules)

pub returns-in_default : goal.returns-in_default
returns-in_default c = elim c.in_default.branch [
  | in_default-via-then-text-lt1 w ↦ c.unsigned-in_default.ensures ∙ number_short _ (search rules)
  | in_default-via-else-text-lt1+in_default-1 w ↦ c.unsigned-in_default.ensures ∙ number_plain _ (search rules)
]
