use Rattle.call_node.proofs.answered.Goals as goal

pub returns : goal.returns
returns c = rw c.joined.ensures
