-- What is read stands at the node's place. Assumes nothing.
use Rattle.form_layout.proofs.Sizes.{node_there}
use Rattle.form_layout.proofs.node_at.Goals as goal

pub returns : goal.returns
returns c =
    node_there _ _ _ _ _ _ _ _ _ _ c.requires.1 c.nodes_at.ensures c.u16_at.ensures c.from.ensures c.u16_at-2.ensures c.u16_at-3.ensures c.u16_at-4.ensures
    c.u32_at.ensures c.u32_at-2.ensures
