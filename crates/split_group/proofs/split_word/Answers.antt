-- A Word, or the first `--`. Assumes nothing.
use mathlib.Core.Path.{sym, ◌∙◌}
use Rattle.split_group.proofs.Groups.{a_marker, a_word}
use Rattle.split_group.proofs.split_word.Goals as goal

pub returns-then-is_marker : goal.returns-then-is_marker
returns-then-is_marker c =
    a_marker c.args.os.now c.args.begin c.args.at c.args.items.now _ _ _ c.text-whole.ensures (sym c.is_marker.ensures ∙ c.if-is_marker.true)
    c.put_one.ensures

pub returns : goal.returns
returns c =
    a_word c.args.os.now c.args.begin c.args.at c.args.items.now _ _ _ c.text-whole.ensures (sym c.is_marker.ensures ∙ c.if-is_marker.false)
    c.put_one-2.ensures
