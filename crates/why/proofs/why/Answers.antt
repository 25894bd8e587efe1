-- The run, and then each way on. Assumes nothing.
use Rattle.why.proofs.Answers.{answer_refused, answer_unleft, answer_asked, answer_left}
use Rattle.std.proofs.Math.Path.{ap}
use mathlib.Core.Bool.{not}
use Rattle.why.proofs.why.Goals as goal

pub returns-then-refused_before : goal.returns-then-refused_before
returns-then-refused_before c = search answer_refused

pub returns-then-not-is_left : goal.returns-then-not-is_left
returns-then-not-is_left c = search answer_unleft

pub find_reason-found-requires : goal.find_reason-found-requires
find_reason-found-requires c = answer_asked _ _ _ _ _ _ _ _ _ _ c.run-ran.ensures _ c.refused_before.ensures c.if-refused_before.false _ c.is_left.ensures (ap not c.if-not-is_left.false)

pub returns : goal.returns
returns c = search answer_left
