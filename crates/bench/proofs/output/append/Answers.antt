use Rattle.bench.proofs.Appending.{copied}
use Rattle.bench.proofs.output.append.Goals as goal

pub returns : goal.returns
returns c = copied _ _ _ c.requires _ c.copy_from_slice.ensures.after
