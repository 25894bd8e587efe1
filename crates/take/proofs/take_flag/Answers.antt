-- By what the search of the scope finds. Assumes nothing.
use mathlib.Core.Path.{refl}
use Rattle.take.proofs.Laws.{ready_items, scope_sought}
use Rattle.take.proofs.take_flag.Goals as goal

pub find_named-place-requires : goal.find_named-place-requires
find_named-place-requires c = (c.requires.0, ready_items _ _ _ _ _ c.requires.2 _ _ refl refl _ refl c.requires.1 _ c.requires.2.fine.order)

pub returns : goal.returns
returns c = c.use_flag.ensures _ _ _ c.requires.2 (scope_sought _ _ _ _ _ c.requires.2 _ _ refl refl _ _ c.find_named-place.ensures)
