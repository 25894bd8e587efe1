-- By whether `--` was seen. Assumes nothing.
use Rattle.split_args.proofs.States.{no_marker, one_marker}
use Rattle.split_args.proofs.begin.Goals as goal

pub returns-then-marker-ne0 : goal.returns-then-marker-ne0
returns-then-marker-ne0 c = search one_marker

pub returns-else-marker-ne0 : goal.returns-else-marker-ne0
returns-else-marker-ne0 c = search no_marker
