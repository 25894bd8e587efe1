-- The state is put together. Assumes nothing.
use mathlib.Core.Path.{◌∙◌}
use Rattle.split_args.proofs.state_of.Goals as goal

pub returns : goal.returns
returns c = c.joined.ensures ∙ c.begin-p.ensures
