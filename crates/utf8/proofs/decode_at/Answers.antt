-- An ASCII byte is a character by itself; otherwise four bytes decide, where bytes that are missing count as 0. Assumes nothing.
use mathlib.Core.Path.{sym}
use Rattle.utf8.specs.Laws.{decode_end, decode_ascii, decode_bytes}
use Rattle.utf8.proofs.decode_at.Goals as goal

pub returns-then-s-at : goal.returns-then-s-at
returns-then-s-at c = sym (decode_end _ _ c.if-s-at.true)

pub returns-then-b0-lt128 : goal.returns-then-b0-lt128
returns-then-b0-lt128 c = search decode_ascii

pub returns : goal.returns
returns c = cc (decode_bytes c.args.s.now _ c.if-s-at.false)
