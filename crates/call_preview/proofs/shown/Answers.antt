-- The places, and the rest as the take told it. Assumes nothing.
use Rattle.call_preview.proofs.Laws.{made}
use Rattle.call_preview.proofs.shown.Goals as goal

pub returns : goal.returns
returns c = made _ _ _ c.places_between-used.ensures
