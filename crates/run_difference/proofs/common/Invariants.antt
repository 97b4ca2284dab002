use Rattle.run_lists.specs.Entries.{entry_at}
use Rattle.run_difference.specs.Entries.{Shared}
use Rattle.run_difference.proofs.common.Given as goal

abbrev pub invariant-loop-i : goal.invariant-loop-i
invariant-loop-i l = Shared (entry_at l.one) (entry_at l.other) l.n l.m l.i
