use mathlib.Core.Path.{ap, ◌∙◌}
use Rattle.rules.specs.Election.{taken}
use Rattle.any_list.specs.Arrays.{column}
use Rattle.step_parts.specs.declared.Request.{Request}
use Rattle.step_state.specs.Hold.{id_at}
use Rattle.step_switch.proofs.Updating.{has-head, head-is, collides-is}
use Rattle.step_switch.proofs.is_collision.Goals as goal

pub head-request-requires : goal.head-request-requires
head-request-requires c = has-head c.requires

pub returns : goal.returns
returns c =
    c.is_taken.ensures
    ∙ ap (λ (r : Request). taken c.args.node r.id.0 (column id_at c.args.count c.args.claims.now.ids)) (c.head-request.ensures ∙ head-is c.requires)
    ∙ collides-is c.requires
