-- By what the search of the table finds. Assumes nothing.
use mathlib.Core.Path.{refl}
use Rattle.take.proofs.Laws.{known_sought}
use Rattle.take.proofs.take_arg_known.Goals as goal

pub returns : goal.returns
returns c area n adjacent g says skips =
    c.use_argument.ensures area n adjacent g
    (known_sought _ area _ _ _ g _ _ refl refl c.args.known.now c.args.node _ _ c.find-key.ensures _ says skips)
