use Rattle.short_check.proofs.Legal.{sheet_damaged, whole, sheet_many, left_first, argument_other, argument_good, arguments_good, has_argument}
use Rattle.short_check.proofs.sheet_legal.Goals as goal

pub returns-then-is_err : goal.returns-then-is_err
returns-then-is_err c = sheet_damaged _ _ _ _ c.check.ensures c.is_err.ensures.value c.if-is_err.true

pub count-count-requires : goal.count-count-requires
count-count-requires c = whole _ _ _ c.check.ensures c.is_err.ensures.value c.if-is_err.false

pub returns-then-count-gt-ARGUMENTS : goal.returns-then-count-gt-ARGUMENTS
returns-then-count-gt-ARGUMENTS c =
    sheet_many _ _ _ _ c.check.ensures c.is_err.ensures.value c.if-is_err.false _ c.count-count.ensures c.if-count-gt-ARGUMENTS.true

pub loop-k-init : goal.loop-k-init
loop-k-init c = left_first _ _ _ _ c.check.ensures c.is_err.ensures.value c.if-is_err.false _ c.count-count.ensures

pub argument-requires : goal.argument-requires
argument-requires c = has_argument c.args.alphabet.now _ _ _ c.check.ensures c.is_err.ensures.value c.if-is_err.false _ c.count-count.ensures _ c.loop-k-test.true

pub returns-then-not-argument_legal : goal.returns-then-not-argument_legal
returns-then-not-argument_legal c =
    argument_other _ _ _ _ c.check.ensures c.is_err.ensures.value c.if-is_err.false _ c.count-count.ensures c.if-count-gt-ARGUMENTS.false _
    c.loop-k.invariant _ _ c.argument_legal.ensures c.argument.ensures c.loop-k-test.true c.if-not-argument_legal.true

pub loop-k-preserved : goal.loop-k-preserved
loop-k-preserved c =
    argument_good _ _ _ _ c.check.ensures c.is_err.ensures.value c.if-is_err.false _ c.count-count.ensures c.if-count-gt-ARGUMENTS.false _
    c.loop-k.invariant _ _ c.argument_legal.ensures c.argument.ensures c.loop-k-test.true c.if-not-argument_legal.false

pub returns : goal.returns
returns c =
    arguments_good _ _ _ _ c.check.ensures c.is_err.ensures.value c.if-is_err.false _ c.count-count.ensures c.if-count-gt-ARGUMENTS.false _
    c.loop-k.invariant c.loop-k-test.false
