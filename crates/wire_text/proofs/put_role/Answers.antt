use Rattle.any_text.specs.Puts.{puts}
use Rattle.wire_text.specs.Printout.{role_lines}
use Rattle.wire_text.proofs.put_role.Goals as goal

pub put_flag_line-next-requires : goal.put_flag_line-next-requires
unfolding role_lines
put_flag_line-next-requires c = search puts

pub put_number_line-requires : goal.put_number_line-requires
unfolding role_lines
put_number_line-requires c = search puts

pub returns : goal.returns
unfolding role_lines
returns c = search puts
