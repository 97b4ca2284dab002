use Rattle.any_words.specs.Numbers.{Said}
use Rattle.any_words.proofs.read_number.Given as goal

abbrev pub invariant-loop-byte : goal.invariant-loop-byte
invariant-loop-byte l = Said l.word l.value l.byte-index
