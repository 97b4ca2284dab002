use mathlib.Core.Path.{◌≡◌, ap, ap₂, ◌∙◌}
use mathlib.Core.List.{List}
use Prim.Native.Nat.{◌-◌, ◌≤◌, ◌<◌}
use native.Mathlib.Omega.{arith}
use lib.ListN.{set}
use Rattle.rules.specs.Limits.{most_nodes}
use Rattle.any_list.specs.Arrays.{column, table}
use Rattle.step_parts.specs.Hold.{pack_response}
use Rattle.step_parts.specs.declared.Request.{Request}
use Rattle.step_state.specs.Hold.{open_at}
use Rattle.step_state.specs.declared.Claims.{Claims}
use Rattle.step_state.specs.declared.Stream.{Stream}
use Rattle.step_state.specs.declared.Board.{Board}
use Rattle.step_streams.specs.Does.{news_of, responded, tell_row}
use Rattle.step_switch.specs.Does.{with_claim}
use Rattle.step_switch.proofs.Closing.{at-claims}
use Rattle.step_switch.proofs.Updating.{has-head, head-is, claims_then, shifts-yes, shifts-no, updated-all, updated-one}
use Rattle.step_switch.proofs.updated.Goals as goal
use Rattle.step_switch.proofs.updated.Goals.{After-with_claim-held, Start}

-- the node's place is one of eight
place : (c : Start) → c.args.node - 1 < 8
place c =
    let few : c.args.count ≤ 8 = c.requires.head.at.board.few in
    let from = c.requires.head.at.from in
    let upto = c.requires.head.at.upto in
    omega arith

-- the claims with the id and the term of the request
claimed : (c : After-with_claim-held) → c.with_claim-held.result ≡ claims_then c.requires.head
claimed c =
    c.with_claim-held.ensures ∙ ap (λ (r : Request). with_claim c.args.count c.args.node r.id r.term c.args.claims) (c.head-request.ensures ∙ head-is c.requires.head)

pub head-request-requires : goal.head-request-requires
head-request-requires c = has-head c.requires.head

pub with_claim-held-requires : goal.with_claim-held-requires
with_claim-held-requires c = at-claims c.requires.head.at

pub offset_bounds-next-at : goal.offset_bounds-next-at
offset_bounds-next-at c = omega (arith, place (goal.at.offset_bounds-next-at c).Start)

pub bounds-next-at : goal.bounds-next-at
bounds-next-at c = omega (arith, place (goal.at.bounds-next-at c).Start)

pub tell_all-requires : goal.tell_all-requires
tell_all-requires c = c.requires.head.at.board.few

pub returns-then-now-elected : goal.returns-then-now-elected
returns-then-now-elected c =
    let count = c.args.count in
    ap {B = Board} (λ (l : List Stream). record { streams = l; claims = c.with_claim-held.result }) c.tell_all.ensures
    ∙ ap₂ {C = Board} (λ (k : Claims) (r : Stream). let next = set c.args.streams (c.args.node - 1) r in record { streams = table most_nodes (tell_row (column open_at count next) (news_of k.elected) next); claims = k }) (claimed (goal.at.returns-then-now-elected c).After-with_claim-held) c.without_head-row.ensures
    ∙ updated-all c.requires.head (shifts-yes c.requires.head _ (ap (λ (k : Claims). k.elected) (claimed (goal.at.returns-then-now-elected c).After-with_claim-held)) c.if-now-elected.true) c.requires.roomy

pub offset_bounds-next-at-else-now-elected : goal.offset_bounds-next-at-else-now-elected
offset_bounds-next-at-else-now-elected c = omega (arith, place (goal.at.offset_bounds-next-at-else-now-elected c).Start)

pub bounds-next-at-else-now-elected : goal.bounds-next-at-else-now-elected
bounds-next-at-else-now-elected c = omega (arith, place (goal.at.bounds-next-at-else-now-elected c).Start)

pub returns-else-now-elected : goal.returns-else-now-elected
returns-else-now-elected c =
    ap₂ {C = Board} (λ (r : Stream) (k : Claims). record { streams = set c.args.streams (c.args.node - 1) r; claims = k })
    (c.tell_one.ensures ∙ ap₂ (λ (k : Claims) (r : Stream). responded (pack_response (news_of k.elected c.args.node)) r) (claimed (goal.at.returns-else-now-elected c).After-with_claim-held) c.without_head-row.ensures)
    (claimed (goal.at.returns-else-now-elected c).After-with_claim-held)
    ∙ updated-one c.requires.head (shifts-no c.requires.head _ (ap (λ (k : Claims). k.elected) (claimed (goal.at.returns-else-now-elected c).After-with_claim-held)) c.if-now-elected.false) c.requires.roomy
