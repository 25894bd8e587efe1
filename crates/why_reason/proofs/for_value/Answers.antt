-- By the mark before. Assumes nothing.
use native.Mathlib.Omega.{arith}
use Rattle.why_reason.proofs.Laws.{value_first, value_used, value_free}
use Rattle.why_reason.proofs.for_value.Goals as goal
use Rattle.why_reason.proofs.for_value.Goals.{else-i-gt0-via-then-i-gt0+else-is_parsed, else-i-gt0-via-else-i-gt0}

pub returns-then-is_parsed : goal.returns-then-is_parsed
returns-then-is_parsed c = value_used _ _ _ (λ e. omega arith) _ c.is_parsed.ensures c.if-is_parsed.true c.tell.ensures

pub returns : goal.returns
returns c =
    elim c.else-i-gt0.branch [
      | else-i-gt0-via-then-i-gt0+else-is_parsed w ↦ value_free _ _ _ (λ e. omega arith) _ w.is_parsed.ensures w.if-is_parsed.false c.tell-2.ensures
      | else-i-gt0-via-else-i-gt0 w ↦ value_first _ _ _ (omega arith) c.tell-2.ensures
    ]
