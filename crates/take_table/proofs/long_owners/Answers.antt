use Rattle.take_table.proofs.Lookups.{long_first, long_hit, long_miss, long_last}
use Rattle.take_table.proofs.long_owners.Goals.{then-is_long, else-is_long}
use Rattle.take_table.proofs.long_owners.Goals as goal

pub loop-k-init : goal.loop-k-init
loop-k-init c = search long_first

pub loop-k-preserved : goal.loop-k-preserved
loop-k-preserved c =
    elim c.if-is_long.branch [
      | then-is_long w ↦
          rw w.set-is
          (long_hit _ _ _ c.requires.1 _ _ c.loop-k.invariant c.loop-k-test.true _ c.requires.2 _ c.is_long.ensures w.if-is_long.true _ w.union-set.ensures)
      | else-is_long w ↦
          rw w.set-is
          (long_miss _ _ _ c.requires.1 _ _ c.loop-k.invariant c.loop-k-test.true _ c.requires.2 _ c.is_long.ensures w.if-is_long.false)
    ]

pub returns : goal.returns
returns c = search long_last
