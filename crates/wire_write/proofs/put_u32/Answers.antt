-- Four bytes are two and two. Assumes nothing.
use Rattle.wire_write.proofs.Stores.{four_bytes}
use Rattle.wire_write.proofs.put_u32.Goals as goal

pub returns : goal.returns
returns c = search four_bytes
