use mathlib.Core.Path.{sym, ◌∙◌}
use Rattle.std.proofs.Common.{arith}
use Rattle.std.proofs.lemmas.Result.{err_from_is_err_and}
use Rattle.step_parts.specs.Refusals.{code-some}
use Rattle.list_write.specs.Steps.{refuses-nodes, refuses-step, refuses-long, refuses-room, refuses-nothing}
use Rattle.list_write.proofs.check_list.Goals as goal

pub returns-then-not-is_node : goal.returns-then-not-is_node
returns-then-not-is_node c = refuses-nodes _ _ _ (sym c.is_node.ensures ∙ c.if-not-is_node.true)

pub returns-in_err-check_steps : goal.returns-in_err-check_steps
returns-in_err-check_steps c =
    let p = err_from_is_err_and c.from_residual.result c.from_residual.ensures.1 in
    rw (p.1, p.2) (refuses-step _ _ _ (sym c.is_node.ensures ∙ c.if-not-is_node.false) c.in_err-check_steps.ensures (let z = code-some c.in_err-check_steps.field-0.0 in omega arith))

pub returns-then-steps : goal.returns-then-steps
returns-then-steps c =
    refuses-long _ _ _ (sym c.is_node.ensures ∙ c.if-not-is_node.false) (sym c.in_ok-check_steps.ensures) c.if-steps.true

pub returns-then-room-steps : goal.returns-then-room-steps
returns-then-room-steps c =
    refuses-room _ _ _ (sym c.is_node.ensures ∙ c.if-not-is_node.false) (sym c.in_ok-check_steps.ensures) c.if-steps.false c.if-room-steps.true

pub returns : goal.returns
returns c =
    refuses-nothing _ _ _ (sym c.is_node.ensures ∙ c.if-not-is_node.false) (sym c.in_ok-check_steps.ensures) c.if-steps.false c.if-room-steps.false
