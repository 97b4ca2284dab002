use mathlib.Core.Path.{refl}
use native.Mathlib.Omega.{arith}
use Rattle.run_lists.specs.EventList.{history_bytes}
use Rattle.run.proofs.keep.Goals as goal

pub returns-in-Some : goal.returns-in-Some
unfolding history_bytes
returns-in-Some c = simp c.in-Some.is (refl, c.write_entry.ensures)

pub returns-in-None : goal.returns-in-None
unfolding history_bytes
returns-in-None c = simp c.in-None.is (omega arith, refl)
