-- By whether the repeat was refused, and whether anything was counted. Assumes nothing.
use native.Mathlib.Omega.{arith}
use Rattle.rules.proofs.EvalSound.{sound_some}
use Rattle.eval_list.proofs.Rows.{asks, counts, some_refuses, some_nothing, some_ends}
use Rattle.eval_list.proofs.run_some.Goals as goal

pub run_repeat-all-requires : goal.run_repeat-all-requires
run_repeat-all-requires c = rw c.repeat-how.ensures (asks (sound_some _) c.requires)

pub returns-then-all-ne0 : goal.returns-then-all-ne0
returns-then-all-ne0 c = some_refuses c.requires (rw c.repeat-how.ensures at c.run_repeat-all.ensures) c.if-all-ne0.true c.refused_list.ensures

pub returns-in_default : goal.returns-in_default
returns-in_default c = some_nothing c.requires (rw c.repeat-how.ensures at c.run_repeat-all.ensures) c.if-all-ne0.false c.parse_some.ensures (λ e. omega arith) c.refusal.ensures

pub counted_list-requires : goal.counted_list-requires
counted_list-requires c = counts (sound_some _) c.requires (rw c.repeat-how.ensures at c.run_repeat-all.ensures)

pub returns-in-0 : goal.returns-in-0
returns-in-0 c = some_ends c.requires (rw c.repeat-how.ensures at c.run_repeat-all.ensures) c.if-all-ne0.false c.parse_some.ensures c.in-0.is c.counted_list.ensures
