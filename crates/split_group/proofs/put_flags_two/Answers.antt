-- Room for all letters and both items, or none. Assumes nothing.
use native.Mathlib.Omega.{arith}
use Rattle.std.specs.Prelude.{None}
use Rattle.split_group.specs.Groups.{first_letters, flag_words}
use Rattle.split_group.proofs.Stores.{sets_two_behind, puts_nothing, puts_all}
use Rattle.split_group.proofs.Records.{flags_size}
use Rattle.split_group.proofs.put_flags_two.Goals as goal

pub returns-then-at-before : goal.returns-then-at-before
returns-then-at-before c = puts_nothing _ _ _ _ None _ c.plain-group.ensures (omega arith)

pub returns : goal.returns
returns c =
    puts_all
    _
    _
    _
    _
    _
    None
    _
    c.plain-group.ensures
    (sets_two_behind c.args.items.now _ _ _ (flag_words c.args.whole (first_letters c.args.name.now c.args.before)) c.args.letter
    c.args.rest c.args.at c.args.before c.write_flags.ensures (flags_size c.args.whole c.args.name.now c.args.before c.args.at c.requires)
    c.write_item.ensures c.write_item-2.ensures) (omega (arith, c.requires.places))
