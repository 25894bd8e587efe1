use Rattle.std.proofs.Common.{rules}
use Rattle.take_search.proofs.Items.{operand_said}
use Rattle.take_search.proofs.Search.{first_sought}
use Rattle.take_search.proofs.find_operand.Goals as goal

pub returns : goal.returns
returns c = λ area. first_sought area _ _ _ _ c.requires.1 _ _ _ c.first_where.ensures (λ i b h s. operand_said area c.args.items.now i b (search rules))
