-- What is behind the last whole record. Assumes nothing.
use mathlib.Core.Path.{◌∙◌, ap}
use Rattle.rules.specs.Tree.{zeros}
use Rattle.call_table.proofs.Records.{tail_part}
use Rattle.call_table.proofs.tail_good.Goals as goal

pub returns : goal.returns
returns c = c.all_zero.ensures ∙ ap zeros (tail_part c.args.items.now _)
