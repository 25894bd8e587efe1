-- The arguments are split, and what stands behind their records is cleared. Assumes nothing.
use mathlib.Core.Path.{refl}
use borrow.Author.Rules.{rules}
use Rattle.split_args.proofs.States.{constructs}
use Rattle.split_args.proofs.construct.Goals as goal

pub returns : goal.returns
returns c = constructs _ _ _ _ _ _ c.requires.0 (search rules) c.split_arguments-split.ensures _ refl c.fill.ensures
