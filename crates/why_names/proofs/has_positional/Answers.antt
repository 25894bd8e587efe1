use borrow.Author.Rules.{rules}
use Rattle.form_layout.proofs.Sizes.{node_below}
use Rattle.why_names.proofs.Laws.{good_eight, positional_first, positional_next, positional_hit, positional_last}
use Rattle.why_names.proofs.has_positional.Goals as goal

pub node_count-n-end-requires : goal.node_count-n-end-requires
node_count-n-end-requires c = search good_eight

pub loop-n-init : goal.loop-n-init
loop-n-init c = positional_first _

pub node_at-requires : goal.node_at-requires
node_at-requires c = (search rules, search node_below)

pub returns-then-eq : goal.returns-then-eq
returns-then-eq c = positional_hit _ _ _ c.node_at.ensures (search rules)

pub loop-n-preserved : goal.loop-n-preserved
loop-n-preserved c = positional_next _ _ _ c.loop-n.invariant c.node_at.ensures (λ e. search rules)

pub returns : goal.returns
returns c = search positional_last
