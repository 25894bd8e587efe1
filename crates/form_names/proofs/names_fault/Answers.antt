use Prim.Native.Nat.{◌-◌}
use borrow.Author.Count.{below_none}
use Rattle.form_names.proofs.Records.{names_next, names_here, names_nowhere}
use Rattle.form_names.proofs.names_fault.Goals as goal

pub loop-k-init : goal.loop-k-init
loop-k-init c = below_none _

pub returns-then-not-name_good : goal.returns-then-not-name_good
returns-then-not-name_good c = search names_here

pub loop-k-preserved : goal.loop-k-preserved
loop-k-preserved c = search names_next

pub returns : goal.returns
returns c = search names_nowhere
