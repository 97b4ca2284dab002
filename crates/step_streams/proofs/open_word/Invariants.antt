use Rattle.std.proofs.Common.{◌≡◌, take}
use Rattle.rules.specs.Open.{word_of}
use Rattle.any_list.specs.Arrays.{column}
use Rattle.step_state.specs.Hold.{open_at}
use Rattle.step_streams.proofs.Bits.{bit_at}
use Rattle.step_streams.proofs.open_word.Given as goal

abbrev pub invariant-loop-stream : goal.invariant-loop-stream
invariant-loop-stream l = (l.bit ≡ bit_at l.stream-index) × (l.word ≡ word_of (take l.stream-index (column open_at l.fn.count l.fn.streams)))
