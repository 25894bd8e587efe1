use Rattle.state_marks.proofs.Marks.{picking_from, picking_next, picking_hit, picking_last}
use Rattle.state_marks.proofs.pick_winner.Goals as goal

pub loop-i-init : goal.loop-i-init
loop-i-init c = search picking_from

pub returns-then-ours-is_parsed-clause-picked : goal.returns-then-ours-is_parsed-clause-picked
returns-then-ours-is_parsed-clause-picked c =
    picking_hit _ _ _ _ c.loop-i.invariant c.requires.0 c.requires.1 c.loop-i-test.true _ _ c.is_parsed-ours.ensures c.is_parsed.ensures c.if-ours-is_parsed.true

pub loop-i-preserved : goal.loop-i-preserved
loop-i-preserved c =
    picking_next _ _ _ _ c.loop-i.invariant c.requires.0 c.requires.1 c.loop-i-test.true _ _ c.is_parsed-ours.ensures c.is_parsed.ensures c.if-ours-is_parsed.false

pub returns-clause-picked : goal.returns-clause-picked
returns-clause-picked c = search picking_last
