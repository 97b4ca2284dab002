use Rattle.std.proofs.Common.{◌≡◌, ◌*◌, ◌/◌, ◌%◌, length-set, arith}
use Rattle.run_lists.specs.Stores.{stores}
use Rattle.run_lists.proofs.put_entry.Goals as goal

pub bounds-part-from-2 : goal.bounds-part-from-2
bounds-part-from-2 c = simp length-set (omega arith)

pub bounds-part-from-3 : goal.bounds-part-from-3
bounds-part-from-3 c = simp length-set (omega arith)

pub bounds-part-from-4 : goal.bounds-part-from-4
bounds-part-from-4 c = simp length-set (omega arith)

pub returns : goal.returns
returns c =
    let a = c.args in
    let high : a.term.0 / 256 % 256 ≡ a.term.0 / 256 = omega arith in
    rw (c.to_le_bytes.ensures, high) (stores a.part.now (4 * a.at) a.node 0 (a.term.0 % 256) (a.term.0 / 256))
