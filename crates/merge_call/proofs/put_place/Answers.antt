use Rattle.std.proofs.Common.{◌/◌, ◌%◌, length-set, arith}
use Rattle.merge_call.specs.Replies.{two-stores}
use Rattle.merge_call.proofs.put_place.Goals as goal

pub bounds-places-at-2 : goal.bounds-places-at-2
bounds-places-at-2 c = simp length-set (omega arith)

pub returns : goal.returns
returns c =
    let x = c.args in
    rw c.to_le_bytes.ensures (two-stores x.places.now x.at (x.place % 256) (x.place / 256 % 256))
