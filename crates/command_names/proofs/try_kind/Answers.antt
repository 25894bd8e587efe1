use Rattle.command_names.proofs.Laws.{can_head, kind_first, kind_can, kind_below, kind_end, kind_sum, kind_taken, kind_next}
use Rattle.command_names.proofs.try_kind.Goals as goal

pub name_count-n-requires : goal.name_count-n-requires
name_count-n-requires c = search can_head

pub loop-k-init : goal.loop-k-init
loop-k-init c = search kind_first

pub try_name-one-requires : goal.try_name-one-requires
try_name-one-requires c = (search kind_can, search kind_below)

pub behind-requires : goal.behind-requires
behind-requires c = search kind_sum

pub returns-then-one-ne0 : goal.returns-then-one-ne0
returns-then-one-ne0 c = search kind_taken

pub overflow_add-comparisons : goal.overflow_add-comparisons
overflow_add-comparisons c = record { fits = search kind_sum }

pub loop-k-preserved : goal.loop-k-preserved
loop-k-preserved c = search kind_next

pub returns : goal.returns
returns c = search kind_end
