-- The take's own contract, and the theorem that its places are few. Assumes nothing.
use Rattle.call_preview.proofs.Laws.{cmd_few, cmd_told}
use Rattle.call_preview.proofs.preview_cmd.Goals as goal

pub shown-requires : goal.shown-requires
shown-requires c = search cmd_few

pub returns : goal.returns
returns c = search cmd_told
