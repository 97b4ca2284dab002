use Rattle.std.proofs.Common.{take}
use Rattle.any_text.specs.Put.{Put}
use Rattle.any_text.proofs.put_word.Given as goal

abbrev pub invariant-loop-byte : goal.invariant-loop-byte
invariant-loop-byte l = Put l.initial.buf l.at (take l.byte-index l.word) l.buf l.next
