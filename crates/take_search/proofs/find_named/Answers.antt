use Rattle.std.proofs.Common.{rules}
use Rattle.take_search.proofs.Search.{item_there, first_sought}
use Rattle.take_search.proofs.find_named.Goals as goal

pub first_where-requires-clause-callable : goal.first_where-requires-clause-callable
first_where-requires-clause-callable c = search (rules, item_there)

pub returns : goal.returns
returns c = first_sought _ _ _ _ _ c.requires.1.marked _ _ _ c.first_where.ensures (λ i b h s. search rules)
