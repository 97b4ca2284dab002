use mathlib.Core.Bool.{or_assoc}
use Rattle.rules.specs.Queues.{has}
use Rattle.merge_independence.proofs.is_node_kind.Goals as goal

pub returns : goal.returns
unfolding has
returns c = simp (c.is_learn.ensures, c.is_message.ensures, or_assoc)
