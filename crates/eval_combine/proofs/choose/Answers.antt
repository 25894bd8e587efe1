-- By what was picked. Assumes nothing.
use Rattle.eval_combine.proofs.Choices.{sides_marked, choice_first, choice_second, choice_winner, choice_neither}
use Rattle.eval_combine.proofs.choose.Goals as goal

pub winner-requires : goal.winner-requires
winner-requires c = search sides_marked

pub returns-in-First : goal.returns-in-First
returns-in-First c = search choice_first

pub returns-in-Second : goal.returns-in-Second
returns-in-Second c = search choice_second

pub returns-in-Winner : goal.returns-in-Winner
returns-in-Winner c = search choice_winner

pub returns-in-Neither : goal.returns-in-Neither
returns-in-Neither c = search choice_neither
