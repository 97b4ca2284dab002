use Rattle.std.proofs.Common.{sym, ◌∙◌}
use Rattle.step_parts.specs.Queues.{with_last}
use Rattle.step_parts.proofs.Queue.push.Goals as goal

pub returns-then-full : goal.returns-then-full
unfolding with_last
returns-then-full g c = simp (sym c.full.ensures ∙ c.if-full.true)

pub returns : goal.returns
unfolding with_last
returns g c = simp (sym c.full.ensures ∙ c.if-full.false)
