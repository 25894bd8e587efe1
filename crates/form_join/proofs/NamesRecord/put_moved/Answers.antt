-- Assumes nothing.
use Rattle.rules.specs.Encode.{encode_name}
use Rattle.form_join.specs.Moved.{moves_of, moved_names}
use Rattle.rules.proofs.CommandLaws.{lookup_map}
use Rattle.form_join.proofs.NamesRecord.put_moved.Goals as goal

pub returns : goal.returns
returns c = record { bytes = _; here = lookup_map encode_name (moved_names (moves_of c.args.d) c.args.b.now) c.args.k _ c.moved_name.ensures.same; output = c.put_name.ensures }
