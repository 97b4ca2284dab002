use borrow.Author.Tests.{eq-eqb}
use Rattle.rules.specs.Rules.{joined, vacant}
use Rattle.step_service.specs.Masterships.{backups-len, joined-backup}
use native.Mathlib.Omega.{arith}
use borrow.Author.Rules.{rules}
use Rattle.step_service.proofs.joined.Goals as goal

pub returns-then-service-eq0 : goal.returns-then-service-eq0
unfolding joined vacant
returns-then-service-eq0 c = simp (eq-eqb _ _ c.if-service-eq0.true)

pub bounds-next-at : goal.bounds-next-at
bounds-next-at c =
    let s = c.requires.spare c.if-service-eq0.false in let n = backups-len c.args.service c.requires.ordered in omega arith

pub overflow_add-next : goal.overflow_add-next
overflow_add-next c =
    let s = c.requires.spare c.if-service-eq0.false in let n = backups-len c.args.service c.requires.ordered in search rules

pub returns : goal.returns
returns c =
    joined-backup c.args.service c.requires.ordered c.args.node c.if-service-eq0.false (c.requires.spare c.if-service-eq0.false)
