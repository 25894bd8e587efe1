use Rattle.command_run.proofs.Reports.{joined_answer}
use Rattle.command_run.proofs.run_commands.Goals as goal

pub returns : goal.returns
returns c = joined_answer _ c.run_input-all.result _ _ _ _ _ c.run_input-all.ensures c.joined.ensures
