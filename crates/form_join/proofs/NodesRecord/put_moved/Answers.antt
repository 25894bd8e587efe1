-- Assumes nothing.
use Rattle.rules.specs.Encode.{encode_node}
use Rattle.form_join.specs.Moved.{moves_of, moved_nodes}
use Rattle.rules.proofs.CommandLaws.{lookup_map}
use Rattle.form_join.proofs.NodesRecord.put_moved.Goals as goal

pub returns : goal.returns
returns c = record { bytes = _; here = lookup_map encode_node (moved_nodes (moves_of c.args.d) c.args.b.now) c.args.k _ c.moved_node.ensures.same; output = c.put_node.ensures }
