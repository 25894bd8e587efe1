use Rattle.form_layout.proofs.Sizes.{sized}
use Rattle.form_fields.proofs.Owners.{top_first, top_next, top_last}
use Rattle.form_fields.proofs.top_of.Goals.{then-is_child, else-is_child}
use Rattle.form_fields.proofs.top_of.Goals as goal

pub node_count-count-requires : goal.node_count-count-requires
node_count-count-requires c = (sized _ c.requires).counts.long

pub loop-m-init : goal.loop-m-init
loop-m-init c = top_first _ _

pub loop-m-preserved : goal.loop-m-preserved
loop-m-preserved c =
    top_next _ _ _ _ c.loop-m.invariant _ c.node_count-count.ensures c.loop-m-test.true _ c.is_child.ensures _
    (elim c.if-is_child.branch [
      | then-is_child w ↦ rw w.if-is_child.true w.at-is
      | else-is_child w ↦ rw w.if-is_child.false w.at-is
    ])

pub returns : goal.returns
returns c = search top_last
