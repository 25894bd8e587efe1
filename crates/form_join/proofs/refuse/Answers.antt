-- Assumes nothing.
use Rattle.form_join.proofs.Answering.{refused_cleared}
use Rattle.form_join.proofs.refuse.Goals as goal

pub returns : goal.returns
returns c = refused_cleared _ _ c.told-number.ensures _ _ _ c.clear_from.ensures
