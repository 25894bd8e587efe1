-- By the type of the name record. Assumes nothing.
use Rattle.call_form.proofs.Keys.{form_eight, form_long, name_below, name_past, name_here}
use Rattle.call_form.proofs.is_command.Goals as goal

pub name_count-requires : goal.name_count-requires
name_count-requires c = search form_eight

pub returns-else-k-name_count : goal.returns-else-k-name_count
returns-else-k-name_count c = search name_past

pub name_at-requires : goal.name_at-requires
name_at-requires c = (search form_long, search name_below)

pub returns-then-k-name_count : goal.returns-then-k-name_count
returns-then-k-name_count c = search name_here
