use Rattle.command_names.proofs.Laws.{table_head, table_first, table_end, table_entry, table_can, table_sum, table_taken, table_next}
use Rattle.command_names.proofs.try_names.Goals as goal

pub entry_count-n-requires : goal.entry_count-n-requires
entry_count-n-requires c = search table_head

pub loop-k-init : goal.loop-k-init
loop-k-init c = search table_first

pub entry_at-requires : goal.entry_at-requires
entry_at-requires c = search table_entry

pub try_entry-one-requires : goal.try_entry-one-requires
try_entry-one-requires c = search table_can

pub behind-requires : goal.behind-requires
behind-requires c = search table_sum

pub returns-then-one-ne0 : goal.returns-then-one-ne0
returns-then-one-ne0 c = search table_taken

pub overflow_add-comparisons : goal.overflow_add-comparisons
overflow_add-comparisons c = record { fits = search table_sum }

pub loop-k-preserved : goal.loop-k-preserved
loop-k-preserved c = search table_next

pub returns : goal.returns
returns c = search table_end
