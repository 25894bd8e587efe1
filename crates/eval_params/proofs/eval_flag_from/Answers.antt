-- By what was taken. Assumes nothing.
use Rattle.eval_params.proofs.Laws.{flag_yes, flag_no, flag_refused}
use Rattle.eval_params.proofs.eval_flag_from.Goals as goal

pub returns-then-taken : goal.returns-then-taken
returns-then-taken c area words names leaf skips =
    flag_yes _ _ _ _ _ _ _ leaf.named _ _ (c.take_flag_known-taken.ensures area words names leaf.state leaf.says skips) _ c.if-taken.true
    c.value.ensures

pub returns-then-switch : goal.returns-then-switch
returns-then-switch c area words names leaf skips =
    flag_no _ _ _ _ _ _ _ leaf.named _ _ (c.take_flag_known-taken.ensures area words names leaf.state leaf.says skips) _ c.if-taken.false
    c.if-switch.true c.value-then-switch.ensures

pub returns : goal.returns
returns c area words names leaf skips =
    flag_refused _ _ _ _ _ _ _ leaf.named _ _ (c.take_flag_known-taken.ensures area words names leaf.state leaf.says skips) _ c.if-taken.false
    c.if-switch.false c.refused.ensures
