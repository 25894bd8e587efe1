use Rattle.run.proofs.Runs.{joined_answer}
use Rattle.run.proofs.run.Goals as goal

pub returns : goal.returns
returns c = search joined_answer
