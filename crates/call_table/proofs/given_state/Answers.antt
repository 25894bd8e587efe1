-- The items, then the state over as many. Assumes nothing.
use Rattle.std.proofs.lemmas.Result.{err_from_is_err_and}
use Rattle.call_table.proofs.Laws.{state_fault, state_bad, state_good_lem}
use Rattle.call_table.proofs.given_state.Goals as goal

pub returns-in_err-count : goal.returns-in_err-count
returns-in_err-count c =
    let p = err_from_is_err_and c.from_residual.result c.from_residual.ensures.1 in
    rw (p.1, p.2) (state_fault c.args.fields _ _ c.args.s _ c.in_err-count.ensures)

pub returns-then-not-good : goal.returns-then-not-good
returns-then-not-good c = state_bad _ _ _ _ _ c.in_ok-count.ensures c.if-not-good.ensures

pub returns : goal.returns
returns c = state_good_lem _ _ _ _ _ c.in_ok-count.ensures c.if-not-good.ensures
