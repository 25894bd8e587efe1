-- Two stores, one after the other. Assumes nothing.
use Rattle.wire_write.proofs.Stores.{two_bytes, still_there}
use Rattle.wire_write.proofs.put_u16.Goals as goal

pub bounds-out-at-2 : goal.bounds-out-at-2
bounds-out-at-2 c = search still_there

pub returns : goal.returns
returns c = search two_bytes
