-- Each part is an entry. Assumes nothing.
use Rattle.replay.proofs.list.case_same.Goals as goal

pub returns : goal.returns
returns c e =
    rw (
      ← c.entry-head.ensures,
      ← c.entry-form.ensures,
      ← c.entry-sheet.ensures,
      ← c.entry-given.ensures,
      ← c.entry-second.ensures,
      ← c.entry-numbers.ensures,
      ← c.entry-words.ensures,
      ← c.read_head.ensures,
    )
    (c.same.ensures e)
