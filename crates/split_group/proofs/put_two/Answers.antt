-- Room for two items, or none. Assumes nothing.
use native.Mathlib.Omega.{arith}
use Rattle.std.specs.Prelude.{None}
use Rattle.split_arg.specs.Items.{record_of}
use Rattle.split_group.proofs.Stores.{sets_behind, record_size, puts_nothing, puts_all}
use Rattle.split_group.proofs.put_two.Goals as goal

pub returns-then-at-ge255 : goal.returns-then-at-ge255
returns-then-at-ge255 c = puts_nothing _ _ _ 2 None _ c.plain-group.ensures (omega arith)

pub returns : goal.returns
returns c =
    puts_all
    _
    _
    _
    _
    2
    None
    _
    c.plain-group.ensures
    (sets_behind c.args.items.now _ _ (record_of c.args.first) (record_of c.args.second) c.args.at 1 c.write_item.ensures
    (record_size c.args.first) c.write_item-2.ensures) (omega arith)
