use Prim.Native.Nat.{◌-◌}
use lib.ListN.{length}
use Rattle.wire_fields.specs.Walking.{Walking}
use Rattle.wire_arbitration.specs.Raw.{see}
use Rattle.wire_arbitration.proofs.read_onto.Given as goal

abbrev pub invariant-loop-at : goal.invariant-loop-at
invariant-loop-at l = Walking see l.message l.initial.u l.u l.at

abbrev pub decreases-loop-at : goal.decreases-loop-at
decreases-loop-at l = length l.message - l.at
