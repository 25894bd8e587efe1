use mathlib.Core.Path.{refl}
use Rattle.rules.proofs.GivenLaws.{check_length}
use Rattle.rules.proofs.ReportedLaws.{check_place}
use Rattle.form_idle.proofs.Answers.{idle_refused, idle_told}
use Rattle.form_idle.proofs.idle_repeats.Goals as goal

pub told-number-requires : goal.told-number-requires
told-number-requires c = check_place _ _ c.in-Err.ensures

pub returns-in-Err : goal.returns-in-Err
returns-in-Err c = idle_refused _ _ c.in-Err.ensures _ c.told-number.ensures

pub gather-requires : goal.gather-requires
gather-requires c = check_length _ _ c.in_default.ensures refl

pub returns : goal.returns
returns c = idle_told _ c.in_default.ensures _ c.gather.ensures
