use Rattle.std.proofs.Common.{arith, refl}
use Rattle.list_source.specs.Reads.{good-step}
use Rattle.list_source.proofs.take_step.Goals as goal

pub returns : goal.returns
returns c = let a = c.args in good-step a.taken.nodes a.kind a.node a.taken.steps a.steps.now (omega arith) c.in_ok-check_step.ensures refl (omega arith) (omega arith)
