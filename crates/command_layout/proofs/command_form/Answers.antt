use Rattle.command_layout.proofs.Entries.{entry_good_lem, has_entry, form_of_command}
use Rattle.command_layout.proofs.command_form.Goals as goal

pub entry_at-requires : goal.entry_at-requires
entry_at-requires c = has_entry _ _ c.requires.0.reads _ c.requires.1

pub form_of-requires : goal.form_of-requires
form_of-requires c = rw c.entry_at.ensures (entry_good_lem _ _ c.requires.0.reads _ c.requires.1).fits

pub returns : goal.returns
returns c = λ cs e. form_of_command _ _ e _ c.requires.1 _ (rw (← c.entry_at.ensures) c.form_of.ensures)
