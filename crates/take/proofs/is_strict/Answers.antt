-- By the kind of the record. Assumes nothing.
use Rattle.take.proofs.Texts.{strict_read}
use Rattle.take.proofs.is_strict.Goals as goal

pub returns : goal.returns
returns c = strict_read c.args.items.now c.args.i c.requires.1
