use Rattle.std.proofs.Common.{length}
use Rattle.list_source.specs.Reads.{Going}
use Rattle.list_source.proofs.read_source.Given as goal

abbrev pub invariant-loop-i : goal.invariant-loop-i
invariant-loop-i l = Going l.text l.initial.steps l.steps (length l.yielded) l.taken.nodes l.taken.steps
