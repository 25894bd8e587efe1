use Rattle.run_fields.proofs.Fields.{value_put}
use Rattle.run_fields.proofs.put_value.Goals as goal

pub returns : goal.returns
returns c = value_put _ _ _ _ _ _ c.put-len.ensures c.wrote.ensures
