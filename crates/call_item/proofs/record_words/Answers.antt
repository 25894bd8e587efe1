-- Seven words, one after the other. Assumes nothing.
use Rattle.call_item.proofs.Laws.{record_list}
use Rattle.call_item.proofs.record_words.Goals as goal

pub returns : goal.returns
returns c = record_list c.args.items.now c.args.i c.requires
