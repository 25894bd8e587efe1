-- Four numbers, one behind the other. Assumes nothing.
use Rattle.form_join.proofs.WrittenLaws.{words_put}
use Rattle.form_join.proofs.put_words.Goals as goal

pub returns : goal.returns
returns c = search words_put
