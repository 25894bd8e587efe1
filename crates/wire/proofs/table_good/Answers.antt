use Prim.Native.Nat.{◌+◌}
use native.Mathlib.Omega.{arith}
use Rattle.wire.specs.Laws.{start_most, start_rises}
use Rattle.wire.proofs.Tables.{risen_first, risen_next, too_short, first_bad, falls, last_test}
use Rattle.wire.proofs.table_good.Goals as goal

pub area_start-start-requires : goal.area_start-start-requires
area_start-start-requires c = (c.requires.0, omega (arith, start_most c.args.width c.args.count c.requires.0))

pub returns-then-b-start : goal.returns-then-b-start
returns-then-b-start c = search too_short

pub offset_at-last-requires : goal.offset_at-last-requires
offset_at-last-requires c = (c.requires.0, omega (arith, start_rises c.args.width 0 c.args.count (omega arith)))

pub returns-then-last-ne0 : goal.returns-then-last-ne0
returns-then-last-ne0 c = search first_bad

pub loop-k-init : goal.loop-k-init
loop-k-init c = search risen_first

pub offset_at-next-requires : goal.offset_at-next-requires
offset_at-next-requires c = (c.requires.0, omega (arith, start_rises c.args.width (c.loop-k.k + 1) c.args.count (omega arith)))

pub returns-then-next-last : goal.returns-then-next-last
returns-then-next-last c = search falls

pub loop-k-preserved : goal.loop-k-preserved
loop-k-preserved c = search risen_next

pub returns : goal.returns
returns c = search last_test
