-- Three numbers, one behind the other. Assumes nothing.
use Rattle.form_join.proofs.WrittenLaws.{name_put}
use Rattle.form_join.proofs.put_name.Goals as goal

pub returns : goal.returns
returns c = search name_put
