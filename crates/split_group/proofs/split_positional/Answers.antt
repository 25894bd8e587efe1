-- A PosWord. Assumes nothing.
use Rattle.split_group.proofs.Groups.{a_positional}
use Rattle.split_group.proofs.split_positional.Goals as goal

pub returns : goal.returns
returns c = a_positional c.args.os.now c.args.begin c.args.at c.args.items.now _ _ _ c.text-whole.ensures c.put_one.ensures
