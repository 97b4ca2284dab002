use mathlib.Core.Bool.{or-false}
use Rattle.rules.specs.Queues.{has}
use Rattle.merge_independence.proofs.one_of.Goals as goal

pub returns : goal.returns
unfolding has
returns c = simp or-false
