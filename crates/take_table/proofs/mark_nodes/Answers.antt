use Rattle.form_layout.proofs.Sizes.{sized}
use Rattle.take_table.proofs.Owners.{adding_first, adding_next, owners_made, loose_made}
use Rattle.take_table.proofs.mark_nodes.Goals as goal

pub node_count-end-requires : goal.node_count-end-requires
node_count-end-requires c = (sized _ c.requires.0).counts.long

pub loop-n-init : goal.loop-n-init
loop-n-init c = search adding_first

pub loop-n-preserved : goal.loop-n-preserved
loop-n-preserved c = search adding_next

pub returns : goal.returns
returns c = (search owners_made, loose_made _ _ _ _ _ _ _ c.loop-n.invariant c.node_count-end.ensures c.loop-n-test.false)
