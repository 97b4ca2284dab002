-- The only answer of `run`. (Here, since an edit of what `run` is given bears on it.) Assumes nothing.
use Rattle.run.specs.Ran.{ran}
use Rattle.contracts.specs.Contract.{Only, only}
use Rattle.contracts.specs.Calls.{RunMay}

pub only-run : Only RunMay (λ g. (ran g.0 g.1).returned) (λ g. (ran g.0 g.1).out)
only-run = only _ _ _ _ _ (λ κs a r e m. m)
