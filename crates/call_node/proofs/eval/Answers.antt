use Rattle.call_node.proofs.Answers.{call_refused, call_cleared, call_runs}
use Rattle.call_node.proofs.eval.Goals as goal

pub unchanged-requires : goal.unchanged-requires
unchanged-requires c = c.in-Err.ensures.1

pub returns-in-Err : goal.returns-in-Err
returns-in-Err c = call_refused _ _ _ _ _ _ _ _ c.in-Err.ensures.0 _ c.unchanged.ensures

pub run_admitted-requires : goal.run_admitted-requires
run_admitted-requires c = call_cleared _ _ _ _ _ _ _ c.in_default.ensures _ c.fill.ensures _ c.fill-2.ensures

pub returns : goal.returns
returns c = call_runs _ _ _ _ _ _ _ c.in_default.ensures _ c.fill.ensures _ c.fill-2.ensures _ _ _ c.run_admitted.ensures
