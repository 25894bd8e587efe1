-- The new state is good, so it is handed over as it stands. Assumes nothing.
-- cN is the place N before c.
use mathlib.Core.Path.{◌≡◌}
use lib.ListN.{length}
use borrow.Author.Rules.{rules}
use Rattle.state_value.proofs.Given.{count_ready, scoped_over}
use Rattle.state_value.proofs.set_scope.Goals as goal

pub count_present-remaining-requires : goal.count_present-remaining-requires
count_present-remaining-requires c = let r = count_ready _ c.requires.0 c.args.from _ c.requires.2 in (c.requires.1, r.0, r.1)

pub returns : goal.returns
returns c =
    let long : length c.args.s.marks ≡ 256 = search (rules, c.well_formed) in
    scoped_over _ c.requires.0 _ _ _ long c.requires.1 c.requires.2 c.count_present-remaining.ensures
