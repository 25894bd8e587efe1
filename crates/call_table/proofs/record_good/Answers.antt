-- The text, then the words of the kind. Assumes nothing.
use mathlib.Core.Path.{◌∙◌, ap}
use native.Mathlib.Omega.{arith}
use Rattle.rules.specs.Tree.{zeros}
use Rattle.call_table.proofs.Records.{outside, is_short_lem, is_long_lem, is_word, is_other, words_unused}
use mathlib.Core.Bool.{not}
use Rattle.call_table.proofs.record_good.Goals as goal

pub returns-then-not-part_good : goal.returns-then-not-part_good
returns-then-not-part_good c bytes e = outside bytes _ _ e _ c.part_good.ensures (ap not c.if-not-part_good.true)

pub returns-in-1 : goal.returns-in-1
returns-in-1 c bytes e = is_short_lem bytes _ _ e _ c.part_good.ensures (ap not c.if-not-part_good.false) c.in-1.is _ c.short_good.ensures

pub returns-in-2 : goal.returns-in-2
returns-in-2 c bytes e = is_long_lem bytes _ _ e _ c.part_good.ensures (ap not c.if-not-part_good.false) c.in-2.is _ c.long_good.ensures

pub returns-in-3 : goal.returns-in-3
returns-in-3 c bytes e =
    is_word bytes c.args.r.now _ e _ c.part_good.ensures
    (ap not c.if-not-part_good.false)
    (omega arith)
    (omega arith) _
    (c.all_zero.ensures
    ∙ ap zeros (words_unused c.args.r.now c.requires))

pub returns-in_default : goal.returns-in_default
returns-in_default c bytes e = is_other bytes c.args.r.now _ e _ c.part_good.ensures (λ h. omega arith) (λ h. omega arith) (λ l h. omega arith)

pub returns-in_default-2 : goal.returns-in_default-2
returns-in_default-2 c bytes e = is_other bytes c.args.r.now _ e _ c.part_good.ensures (λ h. omega arith) (λ h. omega arith) (λ l h. omega arith)
