-- The check of the first, that of the second, then the join. Assumes nothing.
use Rattle.rules.proofs.ReportedLaws.{check_place}
use Rattle.form_join.proofs.Answering.{first_reported, second_reported, both_pass}
use Rattle.form_join.proofs.join.Goals as goal

pub refuse-requires : goal.refuse-requires
refuse-requires c = check_place _ _ c.in-Err.ensures

pub returns-in-Err : goal.returns-in-Err
returns-in-Err c = first_reported _ _ _ _ c.in-Err.ensures _ _ c.refuse.ensures

pub refuse-requires-in-Err-check : goal.refuse-requires-in-Err-check
refuse-requires-in-Err-check c = check_place _ _ c.in-Err-check.ensures

pub returns-in-Err-check : goal.returns-in-Err-check
returns-in-Err-check c = second_reported _ _ _ c.in_default.ensures _ c.in-Err-check.ensures _ _ c.refuse-in-Err-check.ensures

pub join_accepted-requires : goal.join_accepted-requires
join_accepted-requires c = both_pass _ _ c.in_default.ensures c.in_default-check.ensures
