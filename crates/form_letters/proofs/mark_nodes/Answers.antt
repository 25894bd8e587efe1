use Rattle.form_layout.proofs.Sizes.{sized}
use Rattle.form_letters.proofs.Tables.{noting_first, noting_next, noting_last}
use Rattle.form_letters.proofs.mark_nodes.Goals as goal

pub node_count-n-requires : goal.node_count-n-requires
node_count-n-requires c = (sized _ c.requires.0).counts.long

pub loop-i-init : goal.loop-i-init
loop-i-init c = search noting_first

pub loop-i-preserved : goal.loop-i-preserved
loop-i-preserved c = search noting_next

pub returns : goal.returns
returns c = search noting_last
