use Rattle.std.proofs.Common.{◌≡◌, true}
use Rattle.rules.specs.Range.{each}
use Rattle.step_range_queues.specs.Tests.{place}
use Rattle.step_range_queues.proofs.queues.queue_fits.Given as goal

abbrev pub invariant-loop-i : goal.invariant-loop-i
invariant-loop-i g l = (past : g.row.T.Denot) → each l.i (place (g.T.Fits.in_use l.count) g.T.Fits.behind past l.fn.q.items l.fn.q.len) ≡ true
