-- By the law of `take_flag` over lent marks. Assumes nothing.
use borrow.Author.Rules.{rules}
use mathlib.Core.Path.{◌≡◌}
use lib.ListN.{length}
use Rattle.call_form.proofs.Takes.{given_names, has_names, sheet_made, ready, flag_hands}
use Rattle.call_form.proofs.flag_taken.Goals as goal

pub codes_of-codes-requires : goal.codes_of-codes-requires
codes_of-codes-requires c = search given_names

pub take_flag-taken-requires : goal.take_flag-taken-requires
take_flag-taken-requires c = (search has_names, search sheet_made, search ready)

pub returns : goal.returns
returns c =
    let long : length c.args.s.marks ≡ 256 = search (rules, c.well_formed) in
    flag_hands _ _ _ _ c.numbers_of.ensures long _ _ _ c.joined.ensures _ c.yes_no.ensures _ c.changed.ensures
    c.args.mark _ c.take_flag-taken.ensures
