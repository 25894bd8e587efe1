use Rattle.command_layout.proofs.Entries.{form_part_lem}
use Rattle.command_layout.proofs.form_of.Goals as goal

pub returns : goal.returns
returns c = search form_part_lem
