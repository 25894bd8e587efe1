-- Each sum is small. Assumes nothing.
use Rattle.form_join.proofs.JoinedLaws.{first_eight, second_eight, nodes_sum, fields_sum, names_sum, area_sum, counts_same}
use Rattle.form_join.proofs.counts_both.Goals as goal

pub node_count-requires : goal.node_count-requires
node_count-requires c = search first_eight

pub node_count-requires-2 : goal.node_count-requires-2
node_count-requires-2 c = search second_eight

pub overflow_add-nodes : goal.overflow_add-nodes
overflow_add-nodes c = record { fits = search nodes_sum }

pub field_count-requires : goal.field_count-requires
field_count-requires c = search first_eight

pub field_count-requires-2 : goal.field_count-requires-2
field_count-requires-2 c = search second_eight

pub overflow_add-fields : goal.overflow_add-fields
overflow_add-fields c = record { fits = search fields_sum }

pub name_count-requires : goal.name_count-requires
name_count-requires c = search first_eight

pub name_count-requires-2 : goal.name_count-requires-2
name_count-requires-2 c = search second_eight

pub overflow_add-names : goal.overflow_add-names
overflow_add-names c = record { fits = search names_sum }

pub area_length-requires : goal.area_length-requires
area_length-requires c = search first_eight

pub area_length-requires-2 : goal.area_length-requires-2
area_length-requires-2 c = search second_eight

pub overflow_add-area : goal.overflow_add-area
overflow_add-area c = record { fits = search area_sum }

pub returns : goal.returns
returns c = search counts_same
