use Rattle.wire.proofs.Stores.{stored_first}
use Rattle.short_sheets.proofs.Reading.{argument_there, length_there, length_narrow, length_stored, lengths_stored}
use Rattle.short_sheets.proofs.read_lengths.Goals as goal

pub loop-k-init : goal.loop-k-init
loop-k-init c = search stored_first

pub argument-requires : goal.argument-requires
argument-requires c = search argument_there

pub overflow_cast-lengths : goal.overflow_cast-lengths
overflow_cast-lengths c = record { fits = search length_narrow }

pub bounds-lengths-k : goal.bounds-lengths-k
bounds-lengths-k c = search length_there

pub loop-k-preserved : goal.loop-k-preserved
loop-k-preserved c = search length_stored

pub returns : goal.returns
returns c = search lengths_stored
