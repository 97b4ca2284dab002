use borrow.Author.Tests.{eq-eqb, ne_eqb}
use Rattle.rules.specs.Election.{status_for}
use Rattle.step_streams.proofs.status_for.Goals as goal

pub returns-then-master-eq0 : goal.returns-then-master-eq0
unfolding status_for
returns-then-master-eq0 c = simp (eq-eqb _ _ c.if-master-eq0.true)

pub returns-then-master-node : goal.returns-then-master-node
unfolding status_for
returns-then-master-node c = simp (ne_eqb _ _ c.if-master-eq0.false, eq-eqb _ _ c.if-master-node.true)

pub returns : goal.returns
unfolding status_for
returns c = simp (ne_eqb _ _ c.if-master-eq0.false, ne_eqb _ _ c.if-master-node.false)
