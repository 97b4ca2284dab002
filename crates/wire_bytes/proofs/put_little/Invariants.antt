use Rattle.wire_bytes.specs.Little.{Putting}
use Rattle.wire_bytes.proofs.put_little.Given as goal

abbrev pub invariant-loop-i : goal.invariant-loop-i
invariant-loop-i l = Putting l.initial.buf l.at l.size l.v l.buf l.left l.i
