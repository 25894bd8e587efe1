-- By the kind of the node. Assumes nothing.
use Rattle.form_layout.proofs.Sizes.{node_below}
use Rattle.call_form.proofs.Keys.{form_eight, form_long, key_past, key_flag, key_argument, key_other}
use Rattle.call_form.proofs.key_at.Goals as goal

pub node_count-requires : goal.node_count-requires
node_count-requires c = search form_eight

pub returns-then-node_count-k : goal.returns-then-node_count-k
returns-then-node_count-k c = search key_past

pub node_at-x-requires : goal.node_at-x-requires
node_at-x-requires c = (search form_long, search node_below)

pub returns-in-Flag : goal.returns-in-Flag
returns-in-Flag c = search key_flag

pub returns-in-Argument : goal.returns-in-Argument
returns-in-Argument c = search key_argument

pub returns-in_default : goal.returns-in_default
returns-in_default c = search key_other
