-- A dash, or the place. Assumes nothing.
use Rattle.bench.proofs.Appending.{dash_appends, place_appends}
use Rattle.bench.proofs.output.append_place.Goals as goal

pub returns-then-place-eq0 : goal.returns-then-place-eq0
returns-then-place-eq0 c = dash_appends _ _ _ _ _ c.if-place-eq0.true c.append.ensures

pub returns : goal.returns
returns c = place_appends _ _ _ _ _ c.if-place-eq0.false c.append_number.ensures
