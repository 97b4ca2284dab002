use Prim.Native.Nat.{◌-◌}
use lib.ListN.{length}
use Rattle.wire_fields.specs.Walking.{Walking}
use Rattle.wire_arbitration.specs.Raw.{see_two}
use Rattle.wire_arbitration.proofs.read_pair.Given as goal

abbrev pub invariant-loop-at : goal.invariant-loop-at
invariant-loop-at l = Walking see_two l.part l.initial.pair l.pair l.at

abbrev pub decreases-loop-at : goal.decreases-loop-at
decreases-loop-at l = length l.part - l.at
