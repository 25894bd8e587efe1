use mathlib.Core.Path.{◌∙◌, ap}
use mathlib.Core.List.{List}
use Prim.Native.Nat.{ℕ}
use lib.ListN.{length}
use Rattle.rules.specs.Base.{is_some}
use Rattle.rules.specs.Calls.{item_from}
use native.Mathlib.Omega.{arith}
use Rattle.call_table.proofs.Records.{record_long, itemizing_first, itemizing_next, itemizing_bad, itemizing_last}
use mathlib.Core.Bool.{not}
use Rattle.call_table.proofs.records_good.Goals as goal

pub loop-i-init : goal.loop-i-init
loop-i-init c = itemizing_first _ _ _

pub record_good-requires : goal.record_good-requires
record_good-requires c = ap length c.words_at.ensures ∙ record_long c.args.items.now c.loop-i.i (omega arith)

pub returns-then-not-record_good : goal.returns-then-not-record_good
returns-then-not-record_good c =
    itemizing_bad _ _ _ _ c.loop-i.invariant c.loop-i-test.true _
    (λ bytes e. c.record_good.ensures bytes e ∙ ap (λ (r : List ℕ). is_some (item_from bytes r)) c.words_at.ensures) (ap not c.if-not-record_good.true)

pub loop-i-preserved : goal.loop-i-preserved
loop-i-preserved c =
    itemizing_next _ _ _ _ c.loop-i.invariant c.loop-i-test.true _
    (λ bytes e. c.record_good.ensures bytes e ∙ ap (λ (r : List ℕ). is_some (item_from bytes r)) c.words_at.ensures) (ap not c.if-not-record_good.false)

pub returns : goal.returns
returns c = itemizing_last _ _ _ _ c.loop-i.invariant c.loop-i-test.false
