use Rattle.any_text.specs.Puts.{puts, put_then, room-then}
use Rattle.wire_text.proofs.put_number_line.Goals as goal

pub put_word-number-requires : goal.put_word-number-requires
put_word-number-requires c = search puts

pub put_wide-end-requires : goal.put_wide-end-requires
put_wide-end-requires c = search puts

pub put_word-requires : goal.put_word-requires
put_word-requires c = room-then (put_then c.put_word-number.ensures c.put_wide-end.ensures) c.requires

pub returns : goal.returns
returns c = search puts
