use mathlib.Core.Bool.{or_assoc}
use Rattle.rules.specs.Queues.{has}
use Rattle.merge_independence.proofs.is_message.Goals as goal

pub returns : goal.returns
unfolding has
returns c = simp (c.is_send.ensures, c.is_receive.ensures, or_assoc)
