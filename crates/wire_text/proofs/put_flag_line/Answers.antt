use Rattle.any_text.specs.Puts.{puts}
use Rattle.wire_text.proofs.put_flag_line.Goals as goal

pub put_word-next-requires : goal.put_word-next-requires
put_word-next-requires c = search puts

pub put_flag-requires : goal.put_flag-requires
put_flag-requires c = search puts

pub returns : goal.returns
returns c = search puts
