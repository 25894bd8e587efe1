-- The tree's kind says whether r is a name. Assumes nothing.
use Rattle.form_join.proofs.MovedLaws.{node_within, r_fits, text_there, other_there}
use Rattle.form_join.proofs.moved_node.Goals as goal

pub moved_p-p-requires : goal.moved_p-p-requires
moved_p-p-requires c = search node_within

pub moved_q-q-requires : goal.moved_q-q-requires
moved_q-q-requires c = search node_within

pub overflow_add-r : goal.overflow_add-r
overflow_add-r c = record { fits = search r_fits }

pub returns-then-has_text : goal.returns-then-has_text
returns-then-has_text c = search (text_there)

pub returns-else-has_text : goal.returns-else-has_text
returns-else-has_text c = search (other_there)
