-- By the kind of the node. Assumes nothing.
use mathlib.Core.Logic.{⊎_elim}
use mathlib.Core.Path.{refl, ap}
use Rattle.form_layout.specs.Kinds.{kind_number}
use Rattle.form_layout.proofs.KindNumbers.{not_kind}
use Rattle.eval_shortcut.proofs.Trees.{form_good_lem, node_inside}
use Rattle.eval_shortcut.proofs.Undone.{undoes_flag, undoes_argument, undoes_choice, undoes_fallback, undoes_other}
use Rattle.eval_shortcut.proofs.undoes.Goals as goal

pub node_at-x-requires : goal.node_at-x-requires
node_at-x-requires c = (form_good_lem _ _ _ c.requires.node, node_inside _ _ _ c.requires.node)

pub returns-in-Flag : goal.returns-in-Flag
returns-in-Flag c =
    ⊎_elim
    (λ e. undoes_flag _ _ _ c.node_at-x.ensures (ap kind_number e))
    (λ e. ⊎_elim (λ e. undoes_choice _ _ _ c.node_at-x.ensures (ap kind_number e)) (λ e. undoes_fallback _ _ _ c.node_at-x.ensures (ap kind_number e)) e)
    c.in-Flag.is

pub returns-in-Argument : goal.returns-in-Argument
returns-in-Argument c = undoes_argument _ _ _ c.node_at-x.ensures (ap kind_number c.in-Argument.is)

pub returns-in_default : goal.returns-in_default
returns-in_default c =
    undoes_other _ _ _ c.node_at-x.ensures (not_kind _ 1 refl c.in_default.not-Flag) (not_kind _ 2 refl c.in_default.not-Argument)
    (not_kind _ 9 refl c.in_default.not-Choice) (not_kind _ 10 refl c.in_default.not-Fallback)
