use borrow.Author.Rules.{rules}
use Rattle.form_layout.proofs.Sizes.{node_below}
use Rattle.why_names.proofs.Laws.{named_eight, unnamed_first, unnamed_next, unnamed_hit, unnamed_last}
use Rattle.why_names.proofs.is_named.Goals as goal

pub node_count-n-end-requires : goal.node_count-n-end-requires
node_count-n-end-requires c = search named_eight

pub loop-n-init : goal.loop-n-init
loop-n-init c = search unnamed_first

pub names_item-requires : goal.names_item-requires
names_item-requires c = (search rules, search node_below)

pub returns-then-names_item : goal.returns-then-names_item
returns-then-names_item c = search (unnamed_hit, node_below)

pub loop-n-preserved : goal.loop-n-preserved
loop-n-preserved c = search (unnamed_next, node_below)

pub returns : goal.returns
returns c = search unnamed_last
