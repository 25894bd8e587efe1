use Rattle.split_arg.proofs.store_item.Goals as goal

pub returns-then-items-i-ge7 : goal.returns-then-items-i-ge7
returns-then-items-i-ge7 c = rw (← c.words_of-words.ensures) c.store.ensures

pub returns : goal.returns
returns c = rw (← c.words_of-words.ensures) c.copy.ensures
