use mathlib.Core.Bool.{true}
use Rattle.rules.specs.Step.{fresh}
use Rattle.run.proofs.fresh_body.Goals as goal

pub returns : goal.returns
unfolding fresh
returns c =
    let nodes = c.args.nodes in
    λ i. record { count = nodes; running = true; core = c.blank_core.ensures nodes i }
