use Rattle.replay.proofs.Told.{case_more}
use Rattle.wire.specs.Laws.{number_bound}
use mathlib.Core.Logic.{inl}
use mathlib.Core.Path.{refl, sym, ◌∙◌}
use native.Mathlib.Omega.{arith}
use Rattle.replay.proofs.list.replay.Goals as goal
use Rattle.replay.proofs.list.replay.Goals.{then-not-case_same, else-not-case_same}

pub table_good-requires : goal.table_good-requires
table_good-requires c =
    let small = number_bound 2 c.args.list.now 0 (λ i. omega (arith, c.type_inv.list i)) in
    (inl refl, omega (arith, small, c.u16_at-count.ensures))

pub loop-k-init : goal.loop-k-init
loop-k-init c = (omega arith, λ z k l. absurd (omega arith))

pub case_same-requires : goal.case_same-requires
case_same-requires c = record { good = sym c.table_good.ensures ∙ c.if-not-table_good.false; below = omega arith }

pub loop-k-preserved : goal.loop-k-preserved
loop-k-preserved c =
    elim c.if-not-case_same.branch [
      | then-not-case_same w ↦ (omega arith, λ z. absurd (omega arith))
      | else-not-case_same w ↦
          let told = c.case_same.ensures w.if-not-case_same.false in
          (omega arith, λ z. case_more _ _ _ _ refl (c.loop-k.invariant.1 (sym w.differ-is ∙ z)) told)
    ]

pub returns : goal.returns
returns c z k l = rw (← c.u16_at-count.ensures) (c.loop-k.invariant.1 z k (omega arith))
