use Prim.Native.Nat.{◌-◌}
use lib.ListN.{length}
use Rattle.wire_frames.specs.Streaming.{Carrying}
use Rattle.wire_frames.proofs.read_message.Given as goal

abbrev pub invariant-loop-at : goal.invariant-loop-at
invariant-loop-at l = Carrying l.message l.known l.at

abbrev pub decreases-loop-at : goal.decreases-loop-at
decreases-loop-at l = length l.message - l.at
