use Rattle.bench.proofs.Appending.{no_words, word_more, all_words_lem}
use Rattle.bench.proofs.output.append_words.Goals as goal

pub loop-word-init : goal.loop-word-init
loop-word-init c = search no_words

pub loop-word-preserved : goal.loop-word-preserved
loop-word-preserved c = search word_more

pub returns : goal.returns
returns c = search all_words_lem
