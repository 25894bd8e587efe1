-- By the kind of the node, from what the table says. Assumes nothing.
use mathlib.Core.Path.{refl, ap}
use borrow.Author.Tests.{eq-eqb}
use Rattle.eval_params.proofs.Absent.{absent_missing}
use Rattle.form_layout.specs.Kinds.{kind_number}
use Rattle.form_layout.proofs.KindNumbers.{not_kind}
use Rattle.eval_shortcut.proofs.Trees.{form_good_lem, node_inside}
use Rattle.eval_shortcut.proofs.OneSide.{searchable_low, misses_switch, misses_flag, misses_argument, misses_none, flag_misses, argument_misses}
use Rattle.eval_shortcut.proofs.is_missing.Goals as goal

pub node_at-x-requires : goal.node_at-x-requires
node_at-x-requires c = (form_good_lem _ _ _ c.requires.stands.node, node_inside _ _ _ c.requires.stands.node)

pub is_missing-requires : goal.is_missing-requires
is_missing-requires c = (searchable_low _ _ _ c.requires, c.requires.long)

pub returns-then-x-ne1-clause-value : goal.returns-then-x-ne1-clause-value
returns-then-x-ne1-clause-value c = misses_flag _ _ _ _ c.node_at-x.ensures _ c.is_missing.ensures (ap kind_number c.in-Flag.is) c.if-x-ne1.true

pub returns-then-x-ne1-clause-misses : goal.returns-then-x-ne1-clause-misses
returns-then-x-ne1-clause-misses c = λ e. flag_misses _ _ _ _ c.node_at-x.ensures _ (absent_missing _ _ _ c.is_missing.ensures) e (ap kind_number c.in-Flag.is) c.if-x-ne1.true

pub returns-else-x-ne1-clause-value : goal.returns-else-x-ne1-clause-value
returns-else-x-ne1-clause-value c = rw (eq-eqb _ _ c.if-x-ne1.false) (misses_switch _ _ _ _ c.node_at-x.ensures (ap kind_number c.in-Flag.is) c.if-x-ne1.false)

pub is_missing-requires-in-Argument : goal.is_missing-requires-in-Argument
is_missing-requires-in-Argument c = (searchable_low _ _ _ c.requires, c.requires.long)

pub returns-in-Argument-clause-value : goal.returns-in-Argument-clause-value
returns-in-Argument-clause-value c = misses_argument _ _ _ _ c.node_at-x.ensures _ c.is_missing-in-Argument.ensures (ap kind_number c.in-Argument.is)

pub returns-in-Argument-clause-misses : goal.returns-in-Argument-clause-misses
returns-in-Argument-clause-misses c = λ e. argument_misses _ _ _ _ c.node_at-x.ensures _ (absent_missing _ _ _ c.is_missing-in-Argument.ensures) e (ap kind_number c.in-Argument.is)

pub returns-in_default-clause-value : goal.returns-in_default-clause-value
returns-in_default-clause-value c = misses_none _ _ _ _ c.node_at-x.ensures (not_kind _ 1 refl c.in_default.not-Flag) (not_kind _ 2 refl c.in_default.not-Argument)
