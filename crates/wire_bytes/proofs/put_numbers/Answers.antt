use Rattle.any_text.specs.Puts.{puts, put_then, room-first, room-then}
use Rattle.wire_bytes.proofs.put_numbers.Goals as goal

pub put_little-a-requires : goal.put_little-a-requires
put_little-a-requires c = search puts

pub put_little-b-requires : goal.put_little-b-requires
put_little-b-requires c = search puts

pub put_little-c-requires : goal.put_little-c-requires
put_little-c-requires c =
    room-then (put_then c.put_little-a.ensures c.put_little-b.ensures) (room-first _ (room-first _ c.requires))

pub put_little-d-requires : goal.put_little-d-requires
put_little-d-requires c =
    room-then (put_then (put_then c.put_little-a.ensures c.put_little-b.ensures) c.put_little-c.ensures) (room-first _ c.requires)

pub put_little-requires : goal.put_little-requires
put_little-requires c =
    room-then (put_then (put_then (put_then c.put_little-a.ensures c.put_little-b.ensures) c.put_little-c.ensures) c.put_little-d.ensures) c.requires

pub returns : goal.returns
returns c = put_then (put_then (put_then (put_then c.put_little-a.ensures c.put_little-b.ensures) c.put_little-c.ensures) c.put_little-d.ensures) c.put_little.ensures
