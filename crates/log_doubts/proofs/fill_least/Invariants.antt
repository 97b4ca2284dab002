use Rattle.log_doubts.specs.Index.{Timing}
use Rattle.log_doubts.proofs.fill_least.Given as goal

abbrev pub invariant-loop-i : goal.invariant-loop-i
invariant-loop-i l = Timing l.records l.least l.i l.time
