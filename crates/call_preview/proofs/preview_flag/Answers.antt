-- The take's own contract, and the theorem that its places are few. Assumes nothing.
use Rattle.call_preview.proofs.Laws.{flag_few, flag_told}
use Rattle.call_preview.proofs.preview_flag.Goals as goal

pub shown-requires : goal.shown-requires
shown-requires c = search flag_few

pub returns : goal.returns
returns c = search flag_told
