use mathlib.Core.Path.{◌∙◌}
use Rattle.step_service.specs.Masterships.{left-vacant, left_over, left-backup, is-backup}
use native.Mathlib.Omega.{arith}
use Rattle.step_service.proofs.left.Goals as goal

pub returns-then-service-eq0 : goal.returns-then-service-eq0
returns-then-service-eq0 c =
    left-vacant c.args.service c.requires.ordered c.args.node c.if-service-node.true c.if-service-eq0.true

pub promoted-requires : goal.promoted-requires
promoted-requires c = record { ordered = c.requires.ordered; term = c.requires.term; some = omega arith }

pub returns-then-service-node : goal.returns-then-service-node
returns-then-service-node c =
    c.promoted.ensures ∙ left_over c.args.service c.requires.ordered c.args.node c.if-service-node.true c.if-service-eq0.false

pub without-requires : goal.without-requires
without-requires c =
    record { ordered = c.requires.ordered; other = c.if-service-node.false; among = is-backup c.args.node c.args.service c.requires.name c.if-service-node.false }

pub returns : goal.returns
returns c =
    c.without.ensures ∙ left-backup c.args.service c.requires.ordered c.args.node c.if-service-node.false
