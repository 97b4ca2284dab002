-- The buffer keeps its length.
use Rattle.std.proofs.Common.{◌≤◌, length}
use Rattle.captured.proofs.run.Given as goal

abbrev pub invariant-loop-before : goal.invariant-loop-before
invariant-loop-before l = 5 ≤ length l.space
