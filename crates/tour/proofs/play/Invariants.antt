-- What is printed next begins before the place that is looked at. Each turn passes a byte of the script.
use Rattle.std.proofs.Common.{◌-◌, ◌≤◌, length}
use Rattle.tour.proofs.play.Given as goal

abbrev pub invariant-loop-i : goal.invariant-loop-i
invariant-loop-i l = (l.from ≤ l.i) × (l.i ≤ length l.script)

abbrev pub decreases-loop-i : goal.decreases-loop-i
decreases-loop-i l = length l.script - l.i
