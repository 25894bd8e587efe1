use Rattle.batch_run.proofs.Parts.{part_reported}
use Rattle.batch_run.proofs.refuse_part.Goals as goal

pub returns : goal.returns
returns c =
    λ form sheet e. part_reported _ _ _ _ _ _ _ _ _ _ c.requires.0 c.requires.1 c.requires.2 c.items-1.given.0 c.answers-1.given.0 c.list-1.given.0
    (c.refuse_sheet.ensures form sheet e)
