use mathlib.Core.Path.{sym, ◌∙◌}
use borrow.Author.Tests.{eq-eqb, ne_eqb}
use Rattle.step_switch_row.specs.Does.{judged}
use Rattle.step_switch_row.proofs.accepts.Goals as goal

pub returns-then-claims-node : goal.returns-then-claims-node
unfolding judged
returns-then-claims-node c = c.is_current.ensures ∙ sym (simp (eq-eqb _ _ c.if-own-id.true, eq-eqb _ _ c.if-claims-node.true))

pub returns-else-claims-node : goal.returns-else-claims-node
unfolding judged
returns-else-claims-node c = sym (simp (eq-eqb _ _ c.if-own-id.true, ne_eqb _ _ c.if-claims-node.false))

pub returns-else-own-id : goal.returns-else-own-id
unfolding judged
returns-else-own-id c = sym (simp (ne_eqb _ _ c.if-own-id.false))
