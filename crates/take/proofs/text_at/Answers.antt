-- By the words of the record. Assumes nothing.
use Rattle.take.proofs.Texts.{text_read}
use Rattle.take.proofs.text_at.Goals as goal

pub returns : goal.returns
returns c = text_read c.args.items.now c.args.i
