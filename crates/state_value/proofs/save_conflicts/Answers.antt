-- By the law of conflicts over lent marks. Assumes nothing.
-- cN is the place N before c.
use mathlib.Core.Path.{◌≡◌, refl}
use lib.ListN.{length}
use borrow.Author.Rules.{rules}
use Rattle.state_value.proofs.Given.{both_ready, winner_small, saved_over}
use Rattle.state_value.proofs.save_conflicts.Goals as goal

pub save_conflicts-requires : goal.save_conflicts-requires
save_conflicts-requires c =
    let r = both_ready _ c.requires.0 _ c.requires.1 c.requires.2 _ refl in
    (r.0, r.1, r.2, winner_small _ c.requires.0 _ c.requires.1 c.requires.2 _ c.requires.3)

pub returns : goal.returns
returns c =
    let long : length c.args.s.marks ≡ 256 = search (rules, c.well_formed) in
    saved_over _ c.requires.0 _ c.requires.1 c.requires.2 _ _ _ _ _ long c.requires.3 refl
    c.save_conflicts.ensures c.numbers_of.ensures c.joined.ensures
