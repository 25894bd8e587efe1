use Rattle.batch_parts.proofs.Slices.{past_cleared}
use Rattle.batch_parts.proofs.clear_past.Goals as goal

pub returns : goal.returns
returns c = past_cleared _ _ c.requires _ c.fill.ensures
