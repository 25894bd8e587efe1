-- A node of another kind names nothing; a flag or an argument marks its names. Assumes nothing.
use mathlib.Core.Logic.{inl, inr}
use mathlib.Core.Path.{refl, ap}
use Rattle.form_layout.specs.Kinds.{kind_number}
use Rattle.form_layout.proofs.KindNumbers.{not_kind}
use Rattle.form_letters.proofs.Tables.{unnoted, noted}
use Rattle.form_letters.proofs.mark_node.Goals.{in-Flag, in-Argument}
use Rattle.form_letters.proofs.mark_node.Goals as goal

pub returns-in_default : goal.returns-in_default
returns-in_default c = unnoted _ _ _ (not_kind _ 1 refl c.in_default.not-Flag) (not_kind _ 2 refl c.in_default.not-Argument)

pub returns : goal.returns
returns c =
    elim c.match-x.branch [
      | in-Flag w ↦ noted _ _ _ (inl (ap kind_number w.in-Flag.is)) _ c.names_end.ensures _ (rw (ap kind_number w.in-Flag.is, ← w.bit-is) c.mark.ensures)
      | in-Argument w ↦ noted _ _ _ (inr (ap kind_number w.in-Argument.is)) _ c.names_end.ensures _ (rw (ap kind_number w.in-Argument.is, ← w.bit-is) c.mark.ensures)
    ]
