-- The part of the area that the record names. Assumes nothing.
use Rattle.form_names.proofs.Records.{bytes_part}
use Rattle.form_names.proofs.bytes.Goals as goal

pub returns : goal.returns
returns c = search bytes_part
