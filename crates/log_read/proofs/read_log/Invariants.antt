use Rattle.std.specs.Prelude.{length}
use Rattle.log_read.specs.Reads.{Going}
use Rattle.log_read.proofs.read_log.Given as goal

abbrev pub invariant-loop-i : goal.invariant-loop-i
invariant-loop-i l = Going l.text l.initial.records l.records l.head l.count (length l.yielded)
