-- The take's own contract, and the theorem that its places are few. Assumes nothing.
use Rattle.call_preview.proofs.Laws.{arg_few, arg_told}
use Rattle.call_preview.proofs.preview_arg.Goals as goal

pub shown-requires : goal.shown-requires
shown-requires c = search arg_few

pub returns : goal.returns
returns c = search arg_told
