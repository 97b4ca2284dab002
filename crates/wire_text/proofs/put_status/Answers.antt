use Rattle.any_text.specs.Puts.{puts}
use Rattle.wire_text.specs.Printout.{status_lines}
use Rattle.wire_text.proofs.put_status.Goals as goal

pub put_flag_line-next-requires : goal.put_flag_line-next-requires
unfolding status_lines
put_flag_line-next-requires c = search puts

pub put_integer_line-requires : goal.put_integer_line-requires
unfolding status_lines
put_integer_line-requires c = search puts

pub returns : goal.returns
unfolding status_lines
returns c = search puts
