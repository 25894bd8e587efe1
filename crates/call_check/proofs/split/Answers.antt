use Rattle.call_check.proofs.Splits.{split_state}
use Rattle.call_check.proofs.split.Goals as goal

pub returns : goal.returns
returns c = search split_state
