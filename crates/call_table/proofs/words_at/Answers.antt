-- A record is seven words. Assumes nothing.
use Rattle.call_table.proofs.Records.{record_part_lem}
use Rattle.call_table.proofs.words_at.Goals as goal

pub returns : goal.returns
returns c = record_part_lem c.args.items.now c.args.i
