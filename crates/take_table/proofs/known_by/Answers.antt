use borrow.Author.Rules.{rules}
use Rattle.take_table.proofs.Lookups.{listing_first, listing_next, listing_last, item_there}
use Rattle.take_table.proofs.known_by.Goals as goal

pub loop-i-init : goal.loop-i-init
loop-i-init c = search listing_first

pub matching-set-requires : goal.matching-set-requires
matching-set-requires c = search (item_there, rules)

pub loop-i-preserved : goal.loop-i-preserved
loop-i-preserved c = listing_next _ _ _ _ _ _ _ _ c.loop-i.invariant c.loop-i-test.true _ c.matching-set.ensures _ c.union-all.ensures

pub returns : goal.returns
returns c = search listing_last
