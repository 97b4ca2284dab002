use mathlib.Core.Bool.{or-false}
use Rattle.rules.specs.Queues.{has}
use Rattle.merge_independence.proofs.is_learn.Goals as goal

pub returns : goal.returns
unfolding has
returns c = simp or-false
