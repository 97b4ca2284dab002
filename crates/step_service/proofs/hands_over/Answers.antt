use borrow.Author.Tests.{eq-eqb, ne_eqb}
use Rattle.rules.specs.Rules.{hands_over}
use Rattle.step_service.specs.Masterships.{some-taken}
use native.Mathlib.Omega.{arith}
use Rattle.step_service.proofs.hands_over.Goals as goal

pub returns-then-service-node : goal.returns-then-service-node
unfolding hands_over
returns-then-service-node c =
    simp (eq-eqb _ _ c.if-service-node.true) (some-taken c.args.service.len c.args.service.backups (omega arith))

pub returns : goal.returns
unfolding hands_over
returns c = simp (ne_eqb _ _ c.if-service-node.false)
