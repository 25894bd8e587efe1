use Rattle.batch_line.proofs.Sheet.{form_reported}
use Rattle.batch_line.proofs.refuse_sheet.Goals as goal

pub returns : goal.returns
returns c = λ form sheet e. form_reported form sheet _ e _ _ _ _ _ _ c.items-1.given c.answers-1.given c.list-1.given _ _ c.refuse_input.ensures
