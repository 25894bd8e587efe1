-- Both refusals. Assumes nothing.
use Rattle.replay.proofs.Told.{check_told}
use Rattle.replay.proofs.cases.check.Goals as goal

pub returns : goal.returns
returns c e = check_told _ _ _ _ _ c.form_check-f.ensures c.sheet_check-s.ensures (c.words_same.ensures e)
