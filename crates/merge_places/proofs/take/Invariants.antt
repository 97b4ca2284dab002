use Prim.Native.Nat.{◌≤◌}
use Rattle.merge_places.specs.Row.{Moved}
use Rattle.merge_places.proofs.take.Given as goal

abbrev pub invariant-loop-i : goal.invariant-loop-i
invariant-loop-i l = (l.start ≤ l.i) × (l.i ≤ l.at) × Moved l.i l.at l.initial.places l.places

abbrev pub decreases-loop-i : goal.decreases-loop-i
decreases-loop-i l = l.i
