use mathlib.Core.Path.{refl, ap, ◌∙◌}
use Prim.Native.Nat.{ℕ, ◌+◌}
use native.Mathlib.Omega.{arith}
use Rattle.form_layout.proofs.Sizes.{sized}
use Rattle.form_idle.proofs.Nodes.{bit_is}
use Rattle.form_idle.proofs.Gathering.{gathered_first, gathered_next, gathered_last, sum_fits}
use Rattle.form_idle.proofs.gather.Goals.{then-is_idle_repeat, else-is_idle_repeat}
use Rattle.form_idle.proofs.gather.Goals as goal

pub node_count-count-requires : goal.node_count-count-requires
node_count-count-requires c = (sized _ c.requires).counts.long

pub loop-k-init : goal.loop-k-init
loop-k-init c = search gathered_first

pub overflow_add-found : goal.overflow_add-found
overflow_add-found c = search sum_fits

pub loop-k-preserved : goal.loop-k-preserved
loop-k-preserved c =
    gathered_next _ _ _ _ _ c.loop-k.invariant c.loop-k-test.true _ c.node_at-x.ensures
    _ _ c.said-first.ensures c.said-second.ensures _ c.may_idle.ensures
    _ c.is_idle_repeat.ensures _ refl _
    (elim c.if-is_idle_repeat.branch [
      | then-is_idle_repeat w ↦ rw w.if-is_idle_repeat.true (w.found-is ∙ ap (λ (v : ℕ). c.loop-k.found + v) (bit_is c.loop-k.k (omega (arith, c.loop-k.invariant.few, c.loop-k-test.true))))
      | else-is_idle_repeat w ↦ rw w.if-is_idle_repeat.false (omega (arith, w.found-is))
    ]) _ refl

pub returns : goal.returns
returns c = search gathered_last
