-- Two lists that are refused: all that the contract of `run` lets be returned and left. Assumes nothing.
use Rattle.std.specs.Prelude.{List, ℕ, replicate}
use Rattle.contracts.specs.Contract.{Gives}
use Rattle.contracts.specs.Opened.{runs}
use Rattle.contracts.specs.Calls.{RunMay}
use Rattle.contracts.specs.Lists.{worked, nine_nodes}
use Rattle.contracts.proofs.Only.{only-run}

-- A byte of the buffer too few.
pub run_short : Gives RunMay (worked, replicate 4106 9) 12 (replicate 4106 9)
unfolding runs
run_short = only-run (worked, replicate 4106 9)

pub run-nine-nodes : (out : List ℕ) → Gives RunMay (nine_nodes, out) 10 out
unfolding runs
run-nine-nodes out = only-run (nine_nodes, out)
