use Rattle.run_fields.proofs.Fields.{field_listed, field_scalar, field_put}
use Rattle.run_fields.proofs.run_value.Goals as goal

pub run_list-requires : goal.run_list-requires
run_list-requires c = search field_listed

pub run_node-ran-requires : goal.run_node-ran-requires
run_node-ran-requires c = search field_scalar

pub returns : goal.returns
returns c = λ t h. field_put _ _ _ t _ _ _ _ _ _ _ _ (c.run_node-ran.ensures t h) c.put_value.ensures
