use Rattle.rules.specs.Range.{within}
use Rattle.any_list.specs.Tests.{tests}
use Rattle.step_parts.proofs.is_node.Goals as goal

pub returns-then-node-ge1 : goal.returns-then-node-ge1
unfolding within
returns-then-node-ge1 c = search tests

pub returns-else-node-ge1 : goal.returns-else-node-ge1
unfolding within
returns-else-node-ge1 c = search tests
