-- The seven words are copied. Assumes nothing.
use Rattle.split_arg.proofs.write_item.Goals as goal

pub returns : goal.returns
returns c = rw (← c.words_of-words.ensures) c.copy.ensures
