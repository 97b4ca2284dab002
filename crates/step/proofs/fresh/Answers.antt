use mathlib.Core.Path.{sym, ◌∙◌}
use Rattle.rules.specs.Step.{fresh}
use Rattle.step.specs.Public.{freshened}
use Rattle.step.specs.Settling.{blank_state}
use Rattle.step.proofs.fresh.Goals as goal

pub returns-then-is_node : goal.returns-then-is_node
unfolding freshened blank_state fresh
returns-then-is_node c = simp (sym c.is_node.ensures ∙ c.if-is_node.true, c.blank_state.ensures)

pub returns : goal.returns
unfolding freshened blank_state
returns c = simp (sym c.is_node.ensures ∙ c.if-is_node.false, c.blank_state-2.ensures)
