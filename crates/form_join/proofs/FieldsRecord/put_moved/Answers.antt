-- Assumes nothing.
use Rattle.rules.specs.Encode.{bytes_of}
use Rattle.form_join.specs.Moved.{moves_of, moved_fields}
use Rattle.rules.proofs.CommandLaws.{lookup_map}
use Rattle.form_join.proofs.FieldsRecord.put_moved.Goals as goal

pub returns : goal.returns
returns c = record { bytes = _; here = lookup_map (bytes_of 2) (moved_fields (moves_of c.args.d) c.args.b.now) c.args.k _ c.moved_field.ensures; output = c.put_u16.ensures }
