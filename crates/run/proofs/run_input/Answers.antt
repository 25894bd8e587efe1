use mathlib.Core.Path.{refl}
use Rattle.rules.proofs.ReportedLaws.{numbered}
use Rattle.run.proofs.Runs.{input_refused, unmarked_answer}
use Rattle.run.proofs.run_input.Goals as goal

pub run_checked-requires : goal.run_checked-requires
run_checked-requires c = (c.in-Ok.ensures.good refl _ _ _ refl refl refl, c.requires)

pub refuse_input-requires : goal.refuse_input-requires
refuse_input-requires c = c.in-Err.ensures.small

pub returns-in-Err : goal.returns-in-Err
returns-in-Err c =
    input_refused _ _ _ _ _ _ c.in-Err.ensures (numbered c.in-Err.fault.refusal) _
    (unmarked_answer _ c.refuse_input.result _ _ _ _ c.requires c.refuse_input.ensures)
