use borrow.Author.Tests.{eq-eqb, ne_eqb}
use Rattle.step_groups.proofs.posts.Goals as goal

pub returns-then-ask : goal.returns-then-ask
returns-then-ask c = simp (eq-eqb _ 1 c.if-ask.true)

pub returns : goal.returns
returns c = simp (ne_eqb _ 1 c.if-ask.false) c.hands_over.ensures
