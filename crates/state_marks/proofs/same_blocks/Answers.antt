use Rattle.state_marks.proofs.Marks.{blocks_first, blocks_next}
use Rattle.state_marks.proofs.same_blocks.Goals as goal

pub loop-i-init : goal.loop-i-init
loop-i-init c = search blocks_first

pub loop-i-preserved : goal.loop-i-preserved
loop-i-preserved c = blocks_next _ _ _ _ c.loop-i.invariant c.loop-i-test.true (c.same_block.ensures c.if-same_block.true)
