use mathlib.Core.Path.{◌≡◌, sym, ap, ◌∙◌}
use mathlib.Core.Bool.{Bool, true, not}
use Prim.Native.Nat.{◌-◌}
use lib.ListN.{get_or}
use lib.Dec.{leb}
use Rattle.rules.specs.Limits.{queue_length}
use Rattle.rules.specs.Election.{elected, holding}
use Rattle.rules.specs.Rules.{update_room}
use Rattle.any_list.specs.Arrays.{column}
use Rattle.step_parts.specs.declared.Request.{Request}
use Rattle.step_state.specs.Hold.{id_at, hold_held, pack_elected}
use Rattle.step_state.specs.Order.{past_stream}
use Rattle.step_state.specs.Reads.{told_of}
use Rattle.step_switch.proofs.Closing.{at-claims, kept-is}
use Rattle.step_switch.proofs.Updating.{has-head, head-is, claims_then, shifts-yes, shifts-no, room-all, room-one, space}
use Rattle.step_switch.proofs.update_room.Goals as goal
use Rattle.step_switch.proofs.update_room.Goals.{After-elected_with-next}

-- whom the ids then elect
new_is : (c : After-elected_with-next) → c.elected_with-next.result ≡ (claims_then c.requires).elected
unfolding holding elected hold_held
new_is c =
    c.elected_with-next.ensures
    ∙ ap (λ (r : Request). pack_elected (holding c.args.node r.id.0 (elected (column id_at c.args.count c.args.claims.now.ids)))) (c.head-request.ensures ∙ head-is c.requires)

-- the master stays: there is room unless the node's queue is full
alone : (c : After-elected_with-next) → c.args.claims.now.elected.master ≡ c.elected_with-next.result.master → (full : Bool) → leb queue_length (get_or c.args.streams.now (c.args.node - 1) past_stream).responses.len ≡ full
    → not full ≡ update_room c.args.node (told_of c.args.count c.args.node true c.args.streams.now c.args.claims.now)
alone c e full q = let p = c.requires in sym (room-one p (shifts-no p _ (new_is c) e) ∙ space p ∙ ap not q)

pub head-request-requires : goal.head-request-requires
head-request-requires c = has-head c.requires

pub elected_with-next-requires : goal.elected_with-next-requires
elected_with-next-requires c = let h = c.requires.at in ((at-claims h).within, kept-is h)

pub returns-then-now-next : goal.returns-then-now-next
returns-then-now-next c = c.tell_room.ensures ∙ sym (room-all c.requires (shifts-yes c.requires _ (new_is (goal.at.returns-then-now-next c).After-elected_with-next) c.if-now-next.true))

pub returns-then-full : goal.returns-then-full
returns-then-full c = alone (goal.at.returns-then-full c).After-elected_with-next c.if-now-next.false _ (sym c.full.ensures ∙ c.if-full.true)

pub returns : goal.returns
returns c = alone (goal.at.returns c).After-elected_with-next c.if-now-next.false _ (sym c.full.ensures ∙ c.if-full.false)
