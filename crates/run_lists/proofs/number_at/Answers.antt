use native.Mathlib.Omega.{arith}
use Rattle.run_lists.specs.EventList.{number_at}
use Rattle.run_lists.proofs.number_at.Goals as goal

pub returns : goal.returns
unfolding number_at
returns c = (omega arith, omega arith)
