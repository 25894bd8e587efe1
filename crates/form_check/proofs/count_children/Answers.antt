use native.Mathlib.Omega.{arith}
use mathlib.Core.Path.{refl}
use Rattle.rules.specs.Form.{read_form}
use Rattle.form_check.proofs.Counting.{children_next, children_last}
use Rattle.form_layout.proofs.Sizes.{sized, nodes_length}
use Rattle.form_check.proofs.count_children.Goals as goal

pub node_count-n-requires : goal.node_count-n-requires
node_count-n-requires c = (sized _ c.requires).counts.long

pub loop-k-init : goal.loop-k-init
loop-k-init c = refl

pub node_at-requires : goal.node_at-requires
node_at-requires c = (c.requires, omega (arith, c.node_count-n.ensures))

pub loop-k-preserved : goal.loop-k-preserved
loop-k-preserved c = children_next _ _ _ _ _ _ c.loop-k.invariant c.node_at.ensures c.add_children.ensures

pub returns : goal.returns
returns c = children_last _ (read_form c.args.b.now).nodes _ c.loop-k.k c.loop-k.invariant (omega (arith, c.node_count-n.ensures, nodes_length c.args.b.now))
