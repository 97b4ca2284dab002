use mathlib.Core.Bool.{or_assoc, or-false}
use Rattle.rules.specs.Queues.{has}
use Rattle.merge_independence.proofs.is_switch.Goals as goal

pub returns : goal.returns
unfolding has
returns c = simp (c.is_stream.ensures, or_assoc, or-false)
