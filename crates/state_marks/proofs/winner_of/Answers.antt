-- A law for each way out. Assumes nothing.
use Rattle.state_marks.proofs.Mark.{winner_parsed, winner_none, winner_some, winner_small}
use Rattle.state_marks.proofs.winner_of.Goals.{then-is_parsed-via-then-is_parsed, then-is_parsed-via-else-is_parsed+then-mark-lt2}
use Rattle.state_marks.proofs.winner_of.Goals as goal

pub returns-then-is_parsed-clause-winner : goal.returns-then-is_parsed-clause-winner
returns-then-is_parsed-clause-winner c = elim c.then-is_parsed.branch [
  | then-is_parsed-via-then-is_parsed w ↦ search winner_parsed
  | then-is_parsed-via-else-is_parsed+then-mark-lt2 w ↦ search winner_none
]

pub returns-clause-winner : goal.returns-clause-winner
returns-clause-winner c = search winner_some

pub returns-clause-small : goal.returns-clause-small
returns-clause-small c = search winner_small
