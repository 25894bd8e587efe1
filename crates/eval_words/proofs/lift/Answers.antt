-- The copy of a part. Assumes nothing.
use mathlib.Core.Path.{refl}
use Rattle.eval_words.proofs.Words.{lifted}
use Rattle.eval_words.proofs.lift.Goals as goal

pub returns : goal.returns
returns c = lifted c.args.out.now _ c.args.at c.args.n _ c.requires.0 c.requires.1 refl c.copy.ensures
