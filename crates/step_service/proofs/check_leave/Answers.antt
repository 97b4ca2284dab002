use mathlib.Core.Path.{sym, ◌∙◌}
use Rattle.step_state.specs.Hold.{hold_desk}
use Rattle.step_service.specs.Rules.{leave-unnamed, leave-quiet, leave-spent, leave-posts}
use Rattle.step_service.proofs.check_leave.Goals as goal

pub returns-then-not-names : goal.returns-then-not-names
unfolding hold_desk
returns-then-not-names c = let a = c.args in leave-unnamed a.node (hold_desk a.count a.service a.controllers.now) (sym c.names.ensures ∙ c.if-not-names.true)

pub returns-then-not-hands_over : goal.returns-then-not-hands_over
unfolding hold_desk
returns-then-not-hands_over c =
    let a = c.args in leave-quiet a.node (hold_desk a.count a.service a.controllers.now) (sym c.names.ensures ∙ c.if-not-names.false) (sym c.hands_over.ensures ∙ c.if-not-hands_over.true)

pub returns-then-service-ge-TOP_TERM : goal.returns-then-service-ge-TOP_TERM
unfolding hold_desk
returns-then-service-ge-TOP_TERM c =
    let a = c.args in leave-spent a.node (hold_desk a.count a.service a.controllers.now) (sym c.names.ensures ∙ c.if-not-names.false) (sym c.hands_over.ensures ∙ c.if-not-hands_over.false) c.if-service-ge-TOP_TERM.true

pub returns : goal.returns
unfolding hold_desk
returns c =
    let a = c.args in c.check_post.ensures ∙ leave-posts a.node (hold_desk a.count a.service a.controllers.now) (sym c.names.ensures ∙ c.if-not-names.false) (sym c.hands_over.ensures ∙ c.if-not-hands_over.false) c.if-service-ge-TOP_TERM.false
