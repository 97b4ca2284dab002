-- A body in range with what the code stores is that of the state with what the rule's class writes. Assumes nothing.
use Rattle.std.specs.Prelude.{◌≡◌, Bool, ℕ, ◌-◌, ◌≤◌, ◌<◌, length}
use Rattle.std.proofs.Math.Path.{refl, ap, ap₂, subst}
use Rattle.std.proofs.Common.{sym, ◌∙◌, arith}
use mathlib.Core.List.{List, []}
use Rattle.std.proofs.Math.ListN.{get_or, set}
use Rattle.rules.specs.Limits.{most_nodes}
use Rattle.rules.specs.State as S
use Rattle.rules.specs.Parts.{Inbox, Sent, Received, Telling, Serving, Power, service_part, learn_part, send_part, receive_part, link_part, tell_part, serve_part, power_part, on_device}
use Rattle.rules_laws.specs.InRange.{CoreFits}
use Rattle.rules_laws.specs.RangeTest.{range-sound}
use Rattle.any_list.specs.Arrays.{column}
use Rattle.step_parts.specs.Hold.{pack_mastership}
use Rattle.step_parts.specs.Ordered.{OrderedMastership}
use Rattle.step_parts.specs.declared.Mastership.{Mastership}
use Rattle.step_state.specs.Hold.{events_at, learned_at, says_at, controller_row, stream_row, pack_controllers, pack_streams, pack_claims, pack_core, hold_core, hold_desk, hold_board, represent}
use Rattle.step_state.specs.Order.{OrderedControllers, OrderedBoard, past_controller, past_stream}
use Rattle.step_state.specs.Stores.{store_events, store_inbox, store_sent, store_says, store_received, store_open, store_telling, store_serving}
use Rattle.step_state.specs.declared.Controller.{Controller}
use Rattle.step_state.specs.declared.Stream.{Stream}
use Rattle.step_state.specs.declared.Claims.{Claims}
use Rattle.step_state.specs.declared.Body.{Body}
use Rattle.step_bridge.specs.InOrder.{ordered-controllers, ordered-board, ordered-service}
use Rattle.step_moves.specs.Bodies.{state_of, body_of, Ready}
use Rattle.step_moves.specs.Gets.{controller_of, stream_of}
use Rattle.step_moves.specs.Sets.{with_desk, with_controller, with_board, with_stream, with_last}
use Rattle.step_moves.specs.Puts.{controller-at, stream-at, inbox-stored, says-stored, sent-stored, received-stored, open-stored, serving-stored}

module _ (b : Body) (ready : Ready b) where
  abbrev pub held_core : S.Core
  held_core = hold_core b.count b.core

  pub fits-core : CoreFits b.count b.running held_core
  fits-core = (range-sound (state_of b []) ready.fits).core

  pub few : b.count ≤ most_nodes
  few = (range-sound (state_of b []) ready.fits).count.upper

  pub in-order-controllers : OrderedControllers b.count b.core.controllers
  unfolding represent
  in-order-controllers = rw (ap (λ (x : Body). x.core.controllers) ready.same) at (ordered-controllers (state_of b []) ready.fits)

  pub in-order-board : OrderedBoard b.count b.core.streams b.core.claims
  unfolding represent
  in-order-board = subst (λ (x : Body). OrderedBoard b.count x.core.streams x.core.claims) ready.same (ordered-board (state_of b []) ready.fits)

  pub in-order-service : OrderedMastership b.core.service
  unfolding represent
  in-order-service = subst (λ (x : Body). OrderedMastership x.core.service) ready.same (ordered-service (state_of b []) ready.fits)

  service-same : b.core.service ≡ pack_mastership held_core.desk.service
  unfolding pack_core
  service-same = ap (λ (x : Body). x.core.service) (sym ready.same)

  controllers-same : b.core.controllers ≡ pack_controllers held_core.desk.events held_core.learned held_core.says
  unfolding pack_core
  controllers-same = ap (λ (x : Body). x.core.controllers) (sym ready.same)

  streams-same : b.core.streams ≡ pack_streams held_core.board
  unfolding pack_core
  streams-same = ap (λ (x : Body). x.core.streams) (sym ready.same)

  claims-same : b.core.claims ≡ pack_claims held_core.board
  unfolding pack_core
  claims-same = ap (λ (x : Body). x.core.claims) (sym ready.same)

  -- A body is that of a state if each of its four parts is.
  body_is : (running : Bool) (c : S.Core) {service : Mastership} {controllers : List Controller} {streams : List Stream} {claims : Claims}
      → service ≡ pack_mastership c.desk.service → controllers ≡ pack_controllers c.desk.events c.learned c.says → streams ≡ pack_streams c.board → claims ≡ pack_claims c.board
      → ◌≡◌ {A = Body} (record { count = b.count; running = running; core = record { service = service; controllers = controllers; streams = streams; claims = claims } })
      (record { count = b.count; running = running; core = pack_core c })
  unfolding pack_core
  body_is running c e f g h = λ i. record { count = b.count; running = running; core = record { service = e i; controllers = f i; streams = g i; claims = h i } }

  module _ (history : List S.Write) where
    -- ---- whole columns

    pub desk-stored : (d : S.Desk) → with_desk (pack_mastership d.service) (store_events d.events b.count b.core.controllers) b ≡ body_of (service_part.put d (state_of b history))
    unfolding hold_core
    desk-stored d = body_is b.running _ refl refl streams-same claims-same

    pub telling-stored : (n : ℕ) (v : Telling) → let w = store_telling n v b.count b.core.streams b.core.claims in
        with_board b.running w.streams w.claims b ≡ body_of ((on_device (tell_part n)).put v (state_of b history))
    unfolding hold_core store_telling
    telling-stored n v = body_is b.running _ service-same controllers-same refl refl

    pub power-stored : (v : Power) → with_board v.running (pack_streams v.board) (pack_claims v.board) b ≡ body_of ((on_device power_part).put v (state_of b history))
    power-stored v = body_is v.running _ service-same controllers-same refl refl

    -- ---- rows

    module _ (n : ℕ) (lt : n - 1 < b.count) where
      abbrev j : ℕ
      j = n - 1

      abbrev w : S.Board
      w = hold_board b.count b.core.streams b.core.claims

      abbrev events : List (List S.Mastership)
      events = column events_at b.count b.core.controllers

      abbrev learned : List S.Mastership
      learned = column learned_at b.count b.core.controllers

      abbrev says : List Bool
      says = column says_at b.count b.core.controllers

      place : j < most_nodes
      place = let f = few in omega arith

      controller-is : controller_of b n ≡ controller_row events learned says j
      unfolding hold_core hold_desk
      controller-is = ap (λ (l : List Controller). get_or l j past_controller) controllers-same ∙ controller-at events learned says j place

      stream-is : stream_of b n ≡ stream_row w j
      unfolding hold_core hold_desk
      stream-is = ap (λ (l : List Stream). get_or l j past_stream) streams-same ∙ stream-at w j place

      -- a row of an array, by the row of the table that it is
      in-controllers : (f : Controller → Controller) (l : List Controller) → set (pack_controllers events learned says) j (f (controller_row events learned says j)) ≡ l → set b.core.controllers j (f (controller_of b n)) ≡ l
      unfolding hold_core hold_desk
      in-controllers f l e = ap₂ (λ (k : List Controller) (r : Controller). set k j (f r)) controllers-same controller-is ∙ e

      in-streams : (f : Stream → Stream) (l : List Stream) → set (pack_streams w) j (f (stream_row w j)) ≡ l → set b.core.streams j (f (stream_of b n)) ≡ l
      unfolding hold_core hold_desk
      in-streams f l e = ap₂ (λ (k : List Stream) (r : Stream). set k j (f r)) streams-same stream-is ∙ e

      wide : {A : Type 0} (l : List A) → length l ≡ b.count → j < length l
      wide l e = let k : length l ≡ b.count = e in omega arith

      pub inbox-stored-at : (v : Inbox) → with_controller n (store_inbox v (controller_of b n)) b ≡ body_of ((learn_part n).put v (state_of b history))
      unfolding hold_core hold_desk
      inbox-stored-at v = body_is b.running _ service-same
          (in-controllers (store_inbox v) _ (inbox-stored events learned says j v (wide events fits-core.desk.size) (wide learned fits-core.learned-size))) streams-same claims-same

      pub sent-stored-at : (v : Sent) → with_stream n (store_sent v (stream_of b n)) b ≡ body_of ((send_part n).put v (state_of b history))
      unfolding hold_core pack_claims
      sent-stored-at v = body_is b.running _ service-same controllers-same
          (in-streams (store_sent v) _ (sent-stored w j v (wide w.sent fits-core.board.sent-size) (wide w.requests fits-core.board.requests-size))) claims-same

      pub received-stored-at : (v : Received)
          → with_controller n (store_says v (controller_of b n)) (with_stream n (store_received v (stream_of b n)) b) ≡ body_of ((receive_part n).put v (state_of b history))
      unfolding hold_core hold_desk pack_claims
      received-stored-at v = body_is b.running _ service-same
          (in-controllers (store_says v) _ (says-stored events learned says j v (wide says fits-core.says-size)))
          (in-streams (store_received v) _ (received-stored w j v (wide w.responses fits-core.board.responses-size))) claims-same

      pub open-stored-at : (v : Bool) → with_stream n (store_open v (stream_of b n)) b ≡ body_of ((on_device (link_part n)).put v (state_of b history))
      unfolding hold_core pack_claims
      open-stored-at v = body_is b.running _ service-same controllers-same (in-streams (store_open v) _ (open-stored w j v (wide w.opens fits-core.board.opens-size))) claims-same

      pub serving-stored-at : (v : Serving)
          → with_last (record { 0 = v.last }) (with_stream n (store_serving v (stream_of b n)) b) ≡ body_of ((on_device (serve_part n)).put v (state_of b history))
      unfolding hold_core pack_claims
      serving-stored-at v = body_is b.running _ service-same controllers-same
          (in-streams (store_serving v) _ (serving-stored w j v (wide w.requests fits-core.board.requests-size) (wide w.responses fits-core.board.responses-size)))
          (λ i. record { ids = (claims-same i).ids; terms = (claims-same i).terms; elected = (claims-same i).elected; last = record { 0 = v.last } })
