-- The take's own contract, and the theorem that its places are few. Assumes nothing.
use Rattle.call_preview.proofs.Laws.{positional_few, positional_told}
use Rattle.call_preview.proofs.preview_positional_word.Goals as goal

pub shown-requires : goal.shown-requires
shown-requires c = search positional_few

pub returns : goal.returns
returns c = search positional_told
