use mathlib.Core.Path.{sym, ◌∙◌}
use native.Mathlib.Omega.{arith}
use Rattle.utf8.specs.Laws.{character}
use Rattle.split_arg.proofs.LookUp.{looked_first, all_flags_lem, both, an_argument, neither, a_flag}
use Rattle.split_arg.proofs.look_up.Goals as goal

pub loop-letter-init : goal.loop-letter-init
loop-letter-init c = looked_first _ _ c.requires

pub overflow_add-outcome : goal.overflow_add-outcome
overflow_add-outcome c = omega (arith, character _ _ _ (sym c.letter_at.ensures ∙ c.in-Some.is), c.loop-letter.invariant.few)

pub overflow_add-at : goal.overflow_add-at
overflow_add-at c = omega (arith, character _ _ _ (sym c.letter_at.ensures ∙ c.in-Some.is), c.loop-letter.invariant.few)

pub overflow_add-before : goal.overflow_add-before
overflow_add-before c = omega (arith, character _ _ _ (sym c.letter_at.ensures ∙ c.in-Some.is), c.loop-letter.invariant.few)

pub loop-letter-smaller : goal.loop-letter-smaller
loop-letter-smaller c = omega (arith, character _ _ _ (sym c.letter_at.ensures ∙ c.in-Some.is), c.loop-letter.invariant.few)

pub loop-letter-preserved : goal.loop-letter-preserved
loop-letter-preserved c =
    a_flag _ _ _ _ _ c.loop-letter.invariant _ (sym c.letter_at.ensures ∙ c.in-Some.is) _ _ c.scan-flag.ensures c.scan-argument.ensures c.if-flag.true
    c.if-argument.false

pub returns-in_default : goal.returns-in_default
returns-in_default c = all_flags_lem _ _ _ _ _ c.loop-letter.invariant (sym c.letter_at.ensures ∙ c.in_default.is)

pub returns-then-argument : goal.returns-then-argument
returns-then-argument c =
    both _ _ _ _ _ c.loop-letter.invariant _ (sym c.letter_at.ensures ∙ c.in-Some.is) _ _ c.scan-flag.ensures c.scan-argument.ensures c.if-flag.true
    c.if-argument.true

pub returns-then-argument-2 : goal.returns-then-argument-2
returns-then-argument-2 c =
    an_argument _ _ _ _ _ c.loop-letter.invariant _ (sym c.letter_at.ensures ∙ c.in-Some.is) _ _ c.scan-flag.ensures c.scan-argument.ensures c.if-flag.false
    c.if-argument-2.true

pub returns-else-argument-2 : goal.returns-else-argument-2
returns-else-argument-2 c =
    neither _ _ _ _ _ c.loop-letter.invariant _ (sym c.letter_at.ensures ∙ c.in-Some.is) _ _ c.scan-flag.ensures c.scan-argument.ensures c.if-flag.false
    c.if-argument-2.false
