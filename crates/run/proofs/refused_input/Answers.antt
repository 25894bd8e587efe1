use Rattle.run.proofs.Runs.{refused_answer}
use Rattle.run.proofs.refused_input.Goals as goal

pub returns : goal.returns
returns c = search refused_answer
