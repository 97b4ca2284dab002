use Rattle.any_text.specs.Puts.{puts, put_then, room-then}
use Rattle.wire_text.proofs.put_integer_line.Goals as goal

pub put_word-number-requires : goal.put_word-number-requires
put_word-number-requires c = search puts

pub put_integer-end-requires : goal.put_integer-end-requires
put_integer-end-requires c = search puts

pub put_word-requires : goal.put_word-requires
put_word-requires c = room-then (put_then c.put_word-number.ensures c.put_integer-end.ensures) c.requires

pub returns : goal.returns
returns c = search puts
