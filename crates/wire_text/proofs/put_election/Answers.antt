use Rattle.any_text.specs.Puts.{puts, put_then, room-then}
use Rattle.wire_text.specs.Printout.{election_lines}
use Rattle.wire_text.proofs.put_election.Goals as goal

pub put_flag_line-high-requires : goal.put_flag_line-high-requires
unfolding election_lines
put_flag_line-high-requires c = search puts

pub put_number_line-low-requires : goal.put_number_line-low-requires
unfolding election_lines
put_number_line-low-requires c = search puts

pub put_number_line-requires : goal.put_number_line-requires
unfolding election_lines
put_number_line-requires c = room-then (put_then c.put_flag_line-high.ensures c.put_number_line-low.ensures) c.requires

pub returns : goal.returns
unfolding election_lines
returns c = search puts
