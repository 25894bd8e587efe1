-- By the law of `take_cmd` over lent marks. Assumes nothing.
use borrow.Author.Rules.{rules}
use mathlib.Core.Path.{◌≡◌}
use native.Mathlib.Omega.{arith}
use lib.ListN.{length}
use Rattle.state_marks.proofs.Mark.{command_told}
use Rattle.call_form.proofs.Takes.{sheet_made, number_ready, cmd_hands}
use Rattle.call_form.proofs.cmd_taken.Goals as goal

pub take_cmd-taken-requires : goal.take_cmd-taken-requires
take_cmd-taken-requires c = (search sheet_made, number_ready _ _ _ _ c.requires.1 _ (omega arith) _ c.numbers_of.ensures)

pub returns : goal.returns
returns c =
    let long : length c.args.s.marks ≡ 256 = search (rules, c.well_formed) in
    cmd_hands _ _ _ _ c.numbers_of.ensures long _ _ _ c.joined.ensures _ c.yes_no.ensures _ c.changed.ensures _ _
    c.take_cmd-taken.ensures command_told
