-- Words 3 and 4 are the name. Assumes nothing.
use mathlib.Core.Path.{◌∙◌, ap}
use Rattle.rules.specs.Tree.{zeros}
use Rattle.call_table.proofs.Records.{above, within, words_name}
use Rattle.call_table.proofs.short_good.Goals as goal

pub returns-then-r-le1 : goal.returns-then-r-le1
returns-then-r-le1 c = within _ _ _ c.if-r-le1.true (c.all_zero.ensures ∙ ap zeros (words_name c.args.r.now c.requires))

pub returns-else-r-le1 : goal.returns-else-r-le1
returns-else-r-le1 c = above _ _ c.if-r-le1.false
