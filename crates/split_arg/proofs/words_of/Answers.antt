-- By the kind. Assumes nothing.
use Rattle.rules.specs.Split.{bit}
use Rattle.split_arg.proofs.Records.{from_bit}
use Rattle.split_arg.proofs.words_of.Goals as goal

pub returns-in-Short : goal.returns-in-Short
returns-in-Short c = rw (c.in-Short.is, ← from_bit _ _ c.from.ensures)

pub returns-in-Long : goal.returns-in-Long
returns-in-Long c = rw (c.in-Long.is, ← from_bit _ _ c.from-in-Long.ensures)

pub returns-in-ArgWord : goal.returns-in-ArgWord
unfolding bit
returns-in-ArgWord c = rw c.in-ArgWord.is

pub returns-in-Word : goal.returns-in-Word
unfolding bit
returns-in-Word c = rw c.in-Word.is

pub returns-in-PosWord : goal.returns-in-PosWord
unfolding bit
returns-in-PosWord c = rw c.in-PosWord.is
