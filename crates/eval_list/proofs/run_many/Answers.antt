-- By whether the repeat was refused. Assumes nothing.
use Rattle.rules.proofs.EvalSound.{sound_many}
use Rattle.eval_list.proofs.Rows.{asks, counts, many_refuses, many_ends}
use Rattle.eval_list.proofs.run_many.Goals as goal

pub run_repeat-all-requires : goal.run_repeat-all-requires
run_repeat-all-requires c = rw c.repeat-how.ensures (asks (sound_many _) c.requires)

pub returns-then-all-ne0 : goal.returns-then-all-ne0
returns-then-all-ne0 c = many_refuses c.requires (rw c.repeat-how.ensures at c.run_repeat-all.ensures) c.if-all-ne0.true c.refused_list.ensures

pub counted_list-requires : goal.counted_list-requires
counted_list-requires c = counts (sound_many _) c.requires (rw c.repeat-how.ensures at c.run_repeat-all.ensures)

pub returns : goal.returns
returns c = many_ends c.requires (rw c.repeat-how.ensures at c.run_repeat-all.ensures) c.if-all-ne0.false c.counted_list.ensures
