-- Zeros, then the form over them. Assumes nothing.
use Rattle.form_join.proofs.Answering.{cleared_room, joined_filled}
use borrow.Author.Rules.{rules}
use Rattle.form_join.proofs.write_joined.Goals as goal

pub write_form-length-requires : goal.write_form-length-requires
write_form-length-requires c = search (cleared_room, rules)

pub returns : goal.returns
returns c = search joined_filled
