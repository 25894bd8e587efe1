use Rattle.batch_run.proofs.Parts.{part_reported}
use Rattle.batch_run.proofs.run_part.Goals as goal

pub returns : goal.returns
returns c = part_reported _ _ _ _ _ _ _ _ _ _ c.requires.1 c.requires.2 c.requires.3 c.items-1.given.0 c.answers-1.given.0 c.list-1.given.0 c.run_sheet.ensures
