use native.Mathlib.Omega.{arith}
use mathlib.Core.Path.{sym, ◌∙◌}
use Rattle.form_layout.proofs.Sizes.{sized, nodes_length}
use Rattle.form_check.proofs.Climbing.{filled_first, filled_last}
use Rattle.form_check.proofs.fill_all.Goals as goal

pub node_count-k-requires : goal.node_count-k-requires
node_count-k-requires c = (sized _ c.requires.0).counts.long

pub loop-k-init : goal.loop-k-init
loop-k-init c = filled_first _ _ _ c.requires.1 (nodes_length c.args.b.now ∙ sym c.node_count-k.ensures)

pub bounds-table-k : goal.bounds-table-k
bounds-table-k c = omega (arith, c.loop-k-test.true, c.loop-k.auto.k, c.node_count-k.ensures, sized _ c.requires.0)

pub returns : goal.returns
returns c = filled_last _ _ _ c.loop-k.invariant c.loop-k-test.false
