use mathlib.Core.Path.{◌∙◌, ap, refl}
use lib.ListN.{length}
use native.Mathlib.Omega.{arith, div_fact}
use Rattle.rules.specs.Tree.{zeros}
use Rattle.call_table.proofs.Records.{trimming_next, trimming_last, trimming_none}
use mathlib.Core.Bool.{not}
use Rattle.call_table.proofs.trimmed_count.Goals as goal

pub loop-i-init : goal.loop-i-init
loop-i-init c = record { within = omega arith; same = refl }

pub words_at-requires : goal.words_at-requires
words_at-requires c = omega (arith, c.loop-i.invariant.within, div_fact (length c.args.items.now) 6)

pub returns-then-not-all_zero : goal.returns-then-not-all_zero
returns-then-not-all_zero c = trimming_last _ _ c.loop-i.invariant c.loop-i-test.true _ (c.all_zero.ensures ∙ ap zeros c.words_at.ensures) (ap not c.if-not-all_zero.true)

pub loop-i-preserved : goal.loop-i-preserved
loop-i-preserved c = trimming_next _ _ c.loop-i.invariant c.loop-i-test.true _ (c.all_zero.ensures ∙ ap zeros c.words_at.ensures) (ap not c.if-not-all_zero.false)

pub returns : goal.returns
returns c = trimming_none _ _ c.loop-i.invariant c.loop-i-test.false
