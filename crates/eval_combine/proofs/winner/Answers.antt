-- By the side that was picked. Assumes nothing.
use Rattle.eval_combine.proofs.Choices.{decided_first, decided_second, winner_first, winner_second}
use Rattle.eval_combine.proofs.winner.Goals as goal

pub mark_conflicts-requires : goal.mark_conflicts-requires
mark_conflicts-requires c = search decided_first

pub returns-then-picked : goal.returns-then-picked
returns-then-picked c = search winner_first

pub mark_conflicts-requires-2 : goal.mark_conflicts-requires-2
mark_conflicts-requires-2 c = search decided_second

pub returns : goal.returns
returns c = search winner_second
