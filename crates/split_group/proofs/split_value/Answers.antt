-- The letter is one byte, which is UTF-8. Assumes nothing.
use mathlib.Core.Path.{sym, ◌∙◌}
use Rattle.split_group.proofs.Groups.{letter_known, a_value}
use Rattle.split_group.proofs.split_value.Goals as goal

pub returns-in_default : goal.returns-in_default
returns-in_default c = λ l. letter_known _ _ _ _ c.requires (sym c.decode_at.ensures ∙ c.in_default.is)

pub returns : goal.returns
returns c =
    a_value c.args.os.now c.args.begin c.args.at c.args.items.now _ _ _ c.text-whole.ensures c.args.body _ _ c.text-value.ensures c.requires.within
    (sym c.decode_at.ensures ∙ c.in-Some.is) c.put_two.ensures
