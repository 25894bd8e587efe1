-- By whether the value is a list. Assumes nothing.
use Rattle.eval_missing.proofs.Nodes.{list_lists, node_ready}
use Rattle.eval_missing.proofs.list_missing.Goals as goal

pub returns-then-is_list : goal.returns-then-is_list
returns-then-is_list c = list_lists c.requires c.is_list.ensures c.if-is_list.true

pub list_node-requires : goal.list_node-requires
list_node-requires c = node_ready c.requires c.is_list.ensures c.if-is_list.false
