-- The counts of a form are small. Assumes nothing.
use Rattle.form_join.proofs.MovedLaws.{good_eight, moves_past}
use Rattle.form_join.proofs.Moves.past.Goals as goal

pub node_count-requires : goal.node_count-requires
node_count-requires c = search good_eight

pub name_count-requires : goal.name_count-requires
name_count-requires c = search good_eight

pub area_length-requires : goal.area_length-requires
area_length-requires c = search good_eight

pub returns : goal.returns
returns c = search moves_past
