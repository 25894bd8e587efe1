use Rattle.form_layout.proofs.Sizes.{accepted_names}
use Rattle.call_check.proofs.Splits.{split_answers}
use Rattle.call_check.proofs.split_input.Goals as goal

pub split_refused-requires : goal.split_refused-requires
split_refused-requires c = c.in-Err.ensures.1

pub returns-in-Err : goal.returns-in-Err
returns-in-Err c = rw c.in-Err.ensures.0 c.split_refused.ensures

pub codes_of-codes-requires : goal.codes_of-codes-requires
codes_of-codes-requires c = accepted_names _ c.in_default.ensures.result c.in_default.ensures.accepts

pub split-requires : goal.split-requires
split-requires c = (c.in_default.ensures, c.codes_of-codes.ensures)

pub returns : goal.returns
returns c = split_answers _ _ _ _ _ c.in_default.ensures c.split.ensures
