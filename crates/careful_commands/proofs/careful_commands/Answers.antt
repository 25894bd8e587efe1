-- The run, what its words look like, and the state put together. Assumes nothing.
use Rattle.careful_commands.proofs.Answers.{can_look, run_looked}
use Rattle.careful_commands.proofs.careful_commands.Goals as goal

pub look-looked-requires : goal.look-looked-requires
look-looked-requires c = can_look _ _ _ _ _ _ _ _ _ _ c.run_input-ran.ensures

pub returns : goal.returns
returns c = run_looked _ _ _ _ _ _ _ c.look-looked.ensures _ _ _ _ _ c.run_input-ran.ensures _ c.joined.ensures
