-- By the law of `remove` over lent marks. Assumes nothing.
-- cN is the place N before c.
use mathlib.Core.Path.{◌≡◌}
use lib.ListN.{length}
use borrow.Author.Rules.{rules}
use Rattle.state_value.proofs.Given.{remove_ready, removed_over}
use Rattle.state_value.proofs.remove.Goals as goal

pub remove-p-requires : goal.remove-p-requires
remove-p-requires c = remove_ready _ c.requires.0 _ c.requires.1 _ c.numbers_of.ensures

pub returns : goal.returns
returns c =
    let long : length c.args.s.marks ≡ 256 = search (rules, c.well_formed) in
    removed_over _ c.requires.0 _ _ _ _ _ _ long c.numbers_of.ensures c.remove-p.ensures c.joined.ensures
