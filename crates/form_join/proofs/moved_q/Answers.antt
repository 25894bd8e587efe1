-- A child of a choice alone. Assumes nothing.
use mathlib.Core.Path.{refl, ap}
use Rattle.form_layout.specs.Kinds.{kind_number}
use Rattle.form_layout.proofs.KindNumbers.{not_kind}
use Rattle.form_join.proofs.MovedLaws.{q_child, q_other}
use Rattle.form_join.proofs.moved_q.Goals as goal

pub returns-in-Choice : goal.returns-in-Choice
returns-in-Choice c = q_child _ _ (ap kind_number c.in-Choice.is)

pub returns-in_default : goal.returns-in_default
returns-in_default c = q_other _ _ (not_kind _ 9 refl c.in_default.not-Choice)
