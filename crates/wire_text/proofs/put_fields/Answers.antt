use Rattle.any_text.specs.Puts.{puts, put_then, room-first, room-then}
use Rattle.wire_text.specs.Printout.{field_lines}
use Rattle.wire_text.proofs.put_fields.Goals as goal

pub put_number_line-role-requires : goal.put_number_line-role-requires
unfolding field_lines
put_number_line-role-requires c = search puts

pub put_role-election-requires : goal.put_role-election-requires
unfolding field_lines
put_role-election-requires c = search puts

pub put_election-status-requires : goal.put_election-status-requires
unfolding field_lines
put_election-status-requires c =
    room-then (put_then c.put_number_line-role.ensures c.put_role-election.ensures) (room-first _ c.requires)

pub put_status-requires : goal.put_status-requires
unfolding field_lines
put_status-requires c = room-then (put_then (put_then c.put_number_line-role.ensures c.put_role-election.ensures) c.put_election-status.ensures) c.requires

pub returns : goal.returns
unfolding field_lines
returns c = put_then (put_then (put_then c.put_number_line-role.ensures c.put_role-election.ensures) c.put_election-status.ensures) c.put_status.ensures
