use Rattle.run.proofs.Runs.{splitting_refused, fields_start, fields_end}
use Rattle.run.proofs.run_split.Goals as goal

pub returns-then-split-ne0 : goal.returns-then-split-ne0
returns-then-split-ne0 c = search splitting_refused

pub run_items-requires : goal.run_items-requires
run_items-requires c = search fields_start

pub returns : goal.returns
returns c = search fields_end
