use mathlib.Core.Path.{refl}
use Rattle.take_table.proofs.Lookups.{short_first, short_hit, short_miss, short_last}
use Rattle.take_table.proofs.short_owners.Goals.{then-from-want, else-from-want}
use Rattle.take_table.proofs.short_owners.Goals as goal

pub loop-k-init : goal.loop-k-init
loop-k-init c = λ form loose q. short_first form _ _ _ loose q _

pub loop-k-preserved : goal.loop-k-preserved
loop-k-preserved c =
    λ form loose q.
    let z = c.loop-k.invariant form loose q in
    elim c.if-from-want.branch [
      | then-from-want w ↦
          rw w.set-is
          (short_hit form _ _ _ loose q _ _ _ z c.loop-k-test.true _ _ _ c.from-want.ensures refl c.from.ensures w.if-from-want.true _ w.union-set.ensures)
      | else-from-want w ↦
          rw w.set-is
          (short_miss form _ _ _ loose q _ _ _ z c.loop-k-test.true _ _ _ c.from-want.ensures refl c.from.ensures w.if-from-want.false)
    ]

pub returns : goal.returns
returns c = λ form loose q. short_last form _ _ _ loose q _ _ _ (c.loop-k.invariant form loose q) c.loop-k-test.false
