-- By the law of `take_arg` over lent marks. Assumes nothing.
use borrow.Author.Rules.{rules}
use mathlib.Core.Path.{◌≡◌}
use lib.ListN.{length}
use Rattle.call_form.proofs.Takes.{given_names, has_names, sheet_made, ready, arg_small, arg_hands}
use Rattle.call_form.proofs.arg_taken.Goals as goal

pub codes_of-codes-requires : goal.codes_of-codes-requires
codes_of-codes-requires c = search given_names

pub take_arg-taken-requires : goal.take_arg-taken-requires
take_arg-taken-requires c = (search has_names, search sheet_made, search ready)

pub value_answer-requires : goal.value_answer-requires
value_answer-requires c =
    let ready-here = ready _ _ _ _ c.requires.0.state c.args.mark c.requires.2 _ c.numbers_of.ensures in
    arg_small c.args.mark _ _ _ _ _ _ _ _ ready-here c.take_arg-taken.ensures

pub returns : goal.returns
returns c =
    let long : length c.args.s.marks ≡ 256 = search (rules, c.well_formed) in
    arg_hands _ _ _ _ c.numbers_of.ensures long _ _ _ c.joined.ensures _ c.value_answer.ensures
    c.args.mark _ _ c.take_arg-taken.ensures
