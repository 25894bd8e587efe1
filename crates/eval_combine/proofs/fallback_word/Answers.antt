-- By the node's name record, its number and its kind. Assumes nothing.
-- cN is the place N before c.
use Prim.Native.Nat.{◌<◌}
use native.Mathlib.Omega.{arith}
use Rattle.eval_combine.proofs.Words.{fallback_there, record_low, record_word, number_word, text_word, zero_word}
use Rattle.eval_combine.proofs.fallback_word.Goals as goal

pub node_at-x-requires : goal.node_at-x-requires
node_at-x-requires c = search fallback_there

pub overflow_cast-result : goal.overflow_cast-result
overflow_cast-result c = let low : c.node_at-x.result.r < 128 = search record_low in omega arith

pub overflow_add-result : goal.overflow_add-result
overflow_add-result c = let low : c.node_at-x.result.r < 128 = search record_low in omega arith

pub returns-then-x-ne0 : goal.returns-then-x-ne0
returns-then-x-ne0 c = search record_word

pub returns-then-x-ne0-2 : goal.returns-then-x-ne0-2
returns-then-x-ne0-2 c = search number_word

pub kind-requires : goal.kind-requires
kind-requires c = search fallback_there

pub returns-then-kind-eq2 : goal.returns-then-kind-eq2
returns-then-kind-eq2 c = search text_word

pub returns : goal.returns
returns c = zero_word _ _ _ c.node_at-x.ensures _ c.kind.ensures c.if-x-ne0.false c.if-x-ne0-2.false c.if-kind-eq2.false
