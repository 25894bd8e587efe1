-- Assumes nothing.
use Rattle.form_join.proofs.MovedLaws.{good_eight}
use Rattle.form_join.proofs.NodesRecord.count.Goals as goal

pub node_count-requires : goal.node_count-requires
node_count-requires c = good_eight _ c.requires
