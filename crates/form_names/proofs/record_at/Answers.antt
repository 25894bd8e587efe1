-- Three numbers of two bytes. Assumes nothing.
use Rattle.form_names.proofs.Records.{record_read}
use Rattle.form_names.proofs.record_at.Goals as goal

pub returns : goal.returns
returns c = search record_read
