-- By the flags, then by the arguments. Assumes nothing.
use mathlib.Core.Path.{◌∙◌}
use Rattle.why_letter.proofs.Laws.{known_flag, known_else}
use Rattle.why_letter.proofs.is_known.Goals as goal

pub returns-then-knows : goal.returns-then-knows
returns-then-knows c = c.if-knows.true ∙ known_flag _ _ _ c.knows.ensures c.if-knows.true

pub returns-else-knows : goal.returns-else-knows
returns-else-knows c = known_else _ _ _ c.knows.ensures c.if-knows.false _ c.knows-else-knows.ensures
