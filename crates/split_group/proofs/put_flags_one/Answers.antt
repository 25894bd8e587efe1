-- Room for all letters and the item, or none. Assumes nothing.
use mathlib.Core.Path.{refl}
use native.Mathlib.Omega.{arith}
use Rattle.split_arg.specs.Items.{record_of}
use Rattle.split_group.specs.Groups.{first_letters, flag_words}
use Rattle.split_group.proofs.Stores.{sets_behind, puts_nothing, puts_all}
use Rattle.split_group.proofs.Records.{flags_size}
use Rattle.split_group.proofs.put_flags_one.Goals as goal

pub returns-then-at-before : goal.returns-then-at-before
returns-then-at-before c = puts_nothing _ _ _ _ _ _ refl (omega arith)

pub returns : goal.returns
returns c =
    puts_all
    _
    _
    _
    _
    _
    _
    _
    refl
    (sets_behind c.args.items.now _ _ (flag_words c.args.whole (first_letters c.args.name.now c.args.before)) (record_of c.args.last)
    c.args.at c.args.before c.write_flags.ensures (flags_size c.args.whole c.args.name.now c.args.before c.args.at c.requires)
    c.write_item.ensures) (omega (arith, c.requires.places))
