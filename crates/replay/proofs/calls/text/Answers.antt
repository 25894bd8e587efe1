-- The refusal, then the bytes. Assumes nothing.
use Rattle.replay.proofs.Told.{text_told}
use Rattle.replay.proofs.calls.text.Goals as goal

pub returns-then-words_same : goal.returns-then-words_same
returns-then-words_same c e =
    let same = c.words_same.ensures c.if-words_same.true in
    text_told _ _ _ _ _ _ _ _ _ c.text-part.ensures (c.same.ensures.0 e) same
