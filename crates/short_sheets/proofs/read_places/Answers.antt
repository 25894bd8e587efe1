use Rattle.wire.proofs.Stores.{stored_first}
use Rattle.short_sheets.proofs.Reading.{place_narrow, place_stored, places_stored}
use Rattle.short_sheets.proofs.read_places.Goals as goal

pub loop-i-init : goal.loop-i-init
loop-i-init c = search stored_first

pub overflow_cast-places : goal.overflow_cast-places
overflow_cast-places c = record { fits = search place_narrow }

pub loop-i-preserved : goal.loop-i-preserved
loop-i-preserved c = search place_stored

pub returns : goal.returns
returns c = search places_stored
