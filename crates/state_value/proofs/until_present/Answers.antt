use Rattle.std.proofs.Common.{rules}
use Rattle.state_value.proofs.Loops.{until_found}
use Rattle.state_value.proofs.until_present.Goals as goal

pub returns : goal.returns
returns c = until_found _ _ _ c.requires.1 c.requires.2 _ _ _ c.first_where.ensures (λ k x s. search rules)
