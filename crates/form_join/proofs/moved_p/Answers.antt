-- By the kind: a name, words or a child. Assumes nothing.
use mathlib.Core.Path.{refl, ap}
use Rattle.form_layout.specs.Kinds.{kind_number}
use Rattle.form_layout.proofs.KindNumbers.{not_kind}
use Rattle.form_join.proofs.MovedLaws.{p_name, p_words, p_child}
use Rattle.form_join.proofs.moved_p.Goals as goal

pub returns-in-Zero : goal.returns-in-Zero
returns-in-Zero c = p_name _ _ c.in-Zero.is

pub returns-in-Positional : goal.returns-in-Positional
returns-in-Positional c = p_words _ _ (ap kind_number c.in-Positional.is)

pub returns-in_default : goal.returns-in_default
returns-in_default c =
    p_child _ _ (not_kind _ 0 refl c.in_default.not-Zero) (not_kind _ 1 refl c.in_default.not-Flag) (not_kind _ 2 refl c.in_default.not-Argument)
    (not_kind _ 3 refl c.in_default.not-Positional)
