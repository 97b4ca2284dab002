use borrow.Author.Tests.{eq-eqb, ne_eqb}
use Rattle.step_asks.specs.Kinds.{last-desk}
use Rattle.step_groups.proofs.service_after.Goals as goal

pub joined-requires : goal.joined-requires
joined-requires c = c.requires.joins c.if-ask.true

pub returns-then-ask : goal.returns-then-ask
returns-then-ask c = simp (eq-eqb _ 1 c.if-ask.true) c.joined.ensures

pub left-requires : goal.left-requires
left-requires c = c.requires.leaving (last-desk _ c.requires.kind c.if-ask.false)

pub returns : goal.returns
returns c = simp (ne_eqb _ 1 c.if-ask.false) c.left.ensures
