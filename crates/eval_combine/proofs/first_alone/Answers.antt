-- What `one_side` makes, as a whole. Assumes nothing.
use Rattle.eval_combine.proofs.Alone.{first_whole}
use Rattle.eval_combine.proofs.first_alone.Goals as goal

pub returns-clause-by_index : goal.returns-clause-by_index
returns-clause-by_index c = λ before m. first_whole _ _ before m _ c.one_side.ensures
