use mathlib.Core.Path.{sym, ◌∙◌}
use Rattle.step_state.specs.Hold.{hold_desk}
use Rattle.step_service.specs.Rules.{join-spent, join-vacant, join-named, join-backup}
use Rattle.step_service.proofs.check_join.Goals as goal
use Rattle.step_service.proofs.check_join.Goals.{then-service-eq0+else-service-ge-TOP_TERM, else-service-eq0+else-names}

pub returns-then-service-ge-TOP_TERM : goal.returns-then-service-ge-TOP_TERM
unfolding hold_desk
returns-then-service-ge-TOP_TERM c =
    let a = c.args in join-spent a.node (hold_desk a.count a.service a.controllers.now) c.if-service-eq0.true c.if-service-ge-TOP_TERM.true

pub returns-then-names : goal.returns-then-names
unfolding hold_desk
returns-then-names c =
    let a = c.args in join-named a.node (hold_desk a.count a.service a.controllers.now) c.if-service-eq0.false (sym c.names.ensures ∙ c.if-names.true)

pub returns : goal.returns
unfolding hold_desk
returns c =
    let a = c.args in
    c.check_post.ensures ∙ elim c.if-service-eq0.branch [
      | then-service-eq0+else-service-ge-TOP_TERM w ↦ join-vacant a.node (hold_desk a.count a.service a.controllers.now) w.if-service-eq0.true w.if-service-ge-TOP_TERM.false
      | else-service-eq0+else-names w ↦ join-backup a.node (hold_desk a.count a.service a.controllers.now) w.if-service-eq0.false (sym w.names.ensures ∙ w.if-names.false)
    ]
