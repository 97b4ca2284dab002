use borrow.Author.Tests.{eq-eqb, ne_eqb}
use Rattle.step_groups.proofs.check_desk.Goals as goal

pub returns-then-ask : goal.returns-then-ask
returns-then-ask c = simp (eq-eqb _ 1 c.if-ask.true) (c.check_join.ensures)

pub returns : goal.returns
returns c = simp (ne_eqb _ 1 c.if-ask.false) (c.check_leave.ensures)
