-- The parts in order. Assumes nothing.
use Rattle.bench.proofs.Appending.{line_appends}
use Rattle.bench.proofs.output.first_line.Goals as goal

pub returns : goal.returns
returns c =
    line_appends _ _ _ _ _ _ _ c.append_labelled-numbered.ensures _ _ c.append-labelled.ensures _ _ c.append_place-placed.ensures _ _ c.append_labelled-tried.ensures _ _
    c.append_labelled-counted.ensures _ _ c.append.ensures
