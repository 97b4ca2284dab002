-- No second answer: of `run`. Assumes nothing.
use Rattle.contracts.specs.Contract.{One, one}
use Rattle.contracts.specs.Calls.{RunMay}
use Rattle.contracts.proofs.Only.{only-run}

pub one-run : One RunMay
one-run = one _ _ _ only-run
