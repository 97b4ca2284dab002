use Prim.Native.Nat.{◌*◌}
use native.Mathlib.Omega.{arith}
use Rattle.run_lists.specs.EventList.{entry_bytes}
use Rattle.run_lists.specs.Stores.{sets-part}
use Rattle.run_lists.proofs.write_entry.Goals as goal

pub returns : goal.returns
returns c =
    let a = c.args in
    sets-part a.answers a.out.now (entry_bytes (record { node = a.node; term = a.term.0 })) (4 * a.at) _ (let h = c.requires in omega arith) c.put_entry.ensures
