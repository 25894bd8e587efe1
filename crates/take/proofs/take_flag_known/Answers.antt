-- By what the search of the table finds. Assumes nothing.
use mathlib.Core.Path.{refl}
use Rattle.take.proofs.Laws.{known_sought}
use Rattle.take.proofs.take_flag_known.Goals as goal

pub returns : goal.returns
returns c area words n g says skips =
    c.use_flag.ensures
    area words n g (known_sought _ area words _ _ g _ _ refl refl c.args.known.now c.args.node _ _ c.find-place.ensures _ says skips)
