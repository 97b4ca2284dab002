use Rattle.run.specs.Running.{Running}
use Rattle.run.proofs.run_records.Given as goal

abbrev pub invariant-loop-i : goal.invariant-loop-i
invariant-loop-i l = Running l.list l.initial.out l.i l.out l.body l.writes
