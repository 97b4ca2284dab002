use mathlib.Core.Bool.{or_assoc, or-false}
use Rattle.rules.specs.Queues.{has}
use Rattle.merge_independence.proofs.is_stream.Goals as goal

pub returns : goal.returns
unfolding has
returns c = simp (or_assoc, or-false)
