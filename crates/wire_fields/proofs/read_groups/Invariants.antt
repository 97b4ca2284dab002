use Prim.Native.Nat.{◌+◌, ◌*◌}
use Rattle.wire_fields.specs.Joining.{Joining}
use Rattle.wire_fields.proofs.read_groups.Given as goal

abbrev pub invariant-loop-i : goal.invariant-loop-i
invariant-loop-i l = Joining l.fn.message l.fn.at l.value (7 * l.i) (l.fn.at + l.i)
