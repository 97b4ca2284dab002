use Rattle.std.proofs.Common.{take}
use Rattle.any_text.specs.Put.{Put}
use Rattle.any_text.specs.Line.{spaced}
use Rattle.any_text.proofs.put_numbers.Given as goal

abbrev pub invariant-loop-n : goal.invariant-loop-n
invariant-loop-n l = Put l.initial.buf l.at (spaced (take l.n-index l.numbers)) l.buf l.next
