use mathlib.Core.Path.{ap, ◌∙◌}
use Prim.Native.Nat.{ℕ}
use Rattle.rules.specs.State as S
use Rattle.rules.specs.Ids.{election_id, id_for}
use Rattle.rules.specs.Rules.{send_update_rule}
use Rattle.step_parts.specs.Hold.{pack_request}
use Rattle.step_parts.specs.Queues.{with_last}
use Rattle.step_parts.specs.Ordered.{push-requests}
use Rattle.step_nodes.proofs.send_update.Goals as goal

pub returns : goal.returns
unfolding send_update_rule id_for
returns c =
    let a = c.args in
    let s = a.stream in
    let asked : ℕ → S.Request = λ id. record { message = S.update; id = id; term = a.controller.learned.term.0 } in
    λ i. record {
      opened = s.opened;
      sent = a.controller.learned.term;
      requests =
          (c.push.ensures
          ∙ ap (λ (id : ℕ). with_last s.requests (pack_request (asked id))) (c.election_id.ensures ∙ ap (election_id a.count a.controller.learned.term.0) c.place_of-place.ensures)
          ∙ push-requests s.requests (asked _) c.requires.0.requests c.requires.1) i;
      responses = s.responses;
    }
