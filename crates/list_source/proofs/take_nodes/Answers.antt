use Rattle.list_source.specs.Reads.{few-nodes}
use Rattle.list_source.proofs.take_nodes.Goals as goal

pub returns : goal.returns
returns c = let a = c.args in few-nodes a.taken.nodes a.count a.taken.steps c.if-taken-ne0.false c.is_node.ensures c.if-not-is_node.false
