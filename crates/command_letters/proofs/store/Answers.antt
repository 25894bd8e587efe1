use Rattle.command_letters.proofs.Inserts.{stored}
use Rattle.command_letters.proofs.store.Goals as goal

pub returns : goal.returns
returns c = stored _ _ _ _ _ c.requires.0 c.requires.1 c.rotate_right.ensures.after
