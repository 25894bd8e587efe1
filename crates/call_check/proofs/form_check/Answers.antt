use Rattle.call_answers.proofs.Places.{check_small}
use Rattle.call_check.proofs.form_check.Goals as goal

pub told-requires : goal.told-requires
told-requires c = check_small _ _ c.in-Err.ensures
