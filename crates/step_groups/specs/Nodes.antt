-- Kinds 3 to 7 by the tests that the code makes. Assumes nothing.
use Rattle.std.specs.Prelude.{◌≡◌, Bool, true, false, not, ◌&&◌, ℕ, ◌-◌, ◌≤◌}
use Rattle.std.proofs.Math.Path.{refl, ap}
use Rattle.std.proofs.Common.{sym, ap₂, ◌∙◌, arith}
use mathlib.Core.List.{List, [], append-nil}
use Rattle.std.proofs.Math.ListN.{get_or}
use Rattle.std.proofs.lemmas.List.{set-get_or}
use Rattle.rules.specs.Codes.{step_done}
use Rattle.rules.specs.Limits.{top_id}
use Rattle.rules.specs.State as S
use Rattle.rules.specs.Queues.{first, empty}
use Rattle.rules.specs.Part.{Rule, via, decide}
use Rattle.rules.specs.Parts.{Sender, Sent, Receiver, Received, learn_part, send_part, receive_part}
use Rattle.rules.specs.Rules.{learns, receive_update, receive_write, learn_rule, receive_update_rule, receive_write_rule, is_update}
use Rattle.rules.specs.Rules as R
use Rattle.rules.specs.Step.{act}
use Rattle.rules_laws.specs.InRange.{AnswerFits, ResponseFits}
use Rattle.rules_laws.specs.Lists.{queue-first}
use Rattle.rules_laws.specs.Answered.{Passes}
use Rattle.any_list.specs.Arrays.{column}
use Rattle.any_list.specs.Columns.{column-at}
use Rattle.step_parts.specs.Hold.{hold_responses}
use Rattle.step_state.specs.Hold.{responses_at, hold_core, hold_board}
use Rattle.step_state.specs.Order.{OrderedController, OrderedStream, past_controller, past_stream}
use Rattle.step_state.specs.Reads.{answer_of, inbox_of, sender_of, receiver_of}
use Rattle.step_state.specs.Stores.{store_inbox, store_sent, store_says, store_received}
use Rattle.step_state.specs.declared.Controller.{Controller}
use Rattle.step_state.specs.declared.Stream.{Stream}
use Rattle.step_state.specs.declared.Body.{Body}
use Rattle.step_nodes.specs.Waiting.{send_answer, update_waits, write_waits, Waits, received}
use Rattle.step_moves.specs.Bodies.{state_of, Leaves, Left}
use Rattle.step_moves.specs.Sets.{with_desk, with_controller, with_stream}
use Rattle.step_moves.specs.Gets.{controller_of, stream_of, inbox-read, sender-read, receiver-read}
use Rattle.step_moves.specs.Stored.{fits-core, in-order-controllers, in-order-board, inbox-stored-at, sent-stored-at, received-stored-at}
use Rattle.step_moves.specs.Acts.{plain, done_at, passes}
use Rattle.step_groups.specs.At.{At, row_in, leaves-as}

module _ (b : Body) (n : ℕ) (a : At b n) where
  pub controller-ordered : OrderedController (controller_of b n)
  controller-ordered = (in-order-controllers b a.ready).rows (n - 1) (row_in b n a)

  pub stream-ordered : OrderedStream (stream_of b n)
  stream-ordered = (in-order-board b a.ready).rows (n - 1) (row_in b n a)

  module _ (history : List S.Write) where
    -- ---- 3 Learn

    pub learn-yes : learn_rule.allowed (inbox_of (controller_of b n)) ≡ true → (x : Controller) → x ≡ store_inbox (learn_rule.effect (inbox_of (controller_of b n))) (controller_of b n)
        → (m : Left) → m ≡ plain step_done (with_controller n x b) → Leaves history (act learns n (state_of b history)) m
    unfolding learn_rule
    learn-yes h x f m e = let v = inbox_of (controller_of b n) in
        leaves-as history _ (plain step_done (with_controller n x b)) m e
        (done_at (learn_part n) learn_rule b a.ready history v (inbox-read b n (row_in b n a) history) (record { allowed = rw h tt; term = tt; history = tt; queues = tt })
        (plain step_done (with_controller n x b)) refl
        (ap (λ (y : Controller). with_controller n y b) f ∙ inbox-stored-at b a.ready history n (row_in b n a) (learn_rule.effect v)) (sym (append-nil history)))

    -- ---- 4, 6 Send: for either rule

    module _ (r : Rule Sender Sent) where
      abbrev v : Sender
      v = sender_of b.count (controller_of b n) (stream_of b n)

      pub send-yes : answer_of (decide r (sender_of b.count (controller_of b n) (stream_of b n))) ≡ step_done
          → (x : Stream) → x ≡ store_sent (r.effect (sender_of b.count (controller_of b n) (stream_of b n))) (stream_of b n)
          → (m : Left) → m ≡ plain step_done (with_stream n x b) → Leaves history (via (send_part n) (decide r) (state_of b history)) m
      send-yes h x f m e =
          leaves-as history _ (plain step_done (with_stream n x b)) m e
          (done_at (send_part n) r b a.ready history v (sender-read b n (row_in b n a) history) (passes r v h) (plain step_done (with_stream n x b)) refl
          (ap (λ (y : Stream). with_stream n y b) f ∙ sent-stored-at b a.ready history n (row_in b n a) (r.effect v)) (sym (append-nil history)))

    -- ---- 5, 7 Receive: for either rule

    module _ (r : Rule Receiver Received) where
      abbrev u : Receiver
      u = receiver_of b.count (controller_of b n) (stream_of b n)

      pub receive-yes : Passes r (receiver_of b.count (controller_of b n) (stream_of b n)) → (x : Controller) → x ≡ store_says (r.effect (receiver_of b.count (controller_of b n) (stream_of b n))) (controller_of b n)
          → (y : Stream) → y ≡ store_received (r.effect (receiver_of b.count (controller_of b n) (stream_of b n))) (stream_of b n) → (m : Left)
          → m ≡ plain step_done (with_controller n x (with_stream n y b)) → Leaves history (via (receive_part n) (decide r) (state_of b history)) m
      receive-yes p x f y g m e =
          leaves-as history _ (plain step_done (with_controller n x (with_stream n y b))) m e
          (done_at (receive_part n) r b a.ready history u (receiver-read b n (row_in b n a) history) p (plain step_done (with_controller n x (with_stream n y b))) refl
          (ap₂ (λ (q : Controller) (t : Stream). with_controller n q (with_stream n t b)) f g ∙ received-stored-at b a.ready history n (row_in b n a) (r.effect u)) (sym (append-nil history)))

    pub receive-update-yes : update_waits (stream_of b n) ≡ true → (x : Controller) → x ≡ store_says ((receive_update_rule n).effect (receiver_of b.count (controller_of b n) (stream_of b n))) (controller_of b n)
        → (y : Stream) → y ≡ received (stream_of b n) → (m : Left) → m ≡ plain step_done (with_controller n x (with_stream n y b)) → Leaves history (act receive_update n (state_of b history)) m
    unfolding receive_update_rule
    receive-update-yes h x f y g m e = receive-yes (receive_update_rule n) (record { allowed = rw h tt; term = tt; history = tt; queues = tt }) x f y g m e

    pub receive-write-yes : write_waits (stream_of b n) ≡ true → (y : Stream) → y ≡ received (stream_of b n) → (m : Left) → m ≡ plain step_done (with_stream n y b)
        → Leaves history (act receive_write n (state_of b history)) m
    unfolding receive_write_rule
    receive-write-yes h y g m e =
        let same : with_stream n y b ≡ with_controller n (controller_of b n) (with_stream n y b) =
        ap (λ (l : List Controller). with_desk b.core.service l (with_stream n y b)) (sym (set-get_or b.core.controllers (n - 1) past_controller)) in
        receive-yes receive_write_rule (record { allowed = rw h tt; term = tt; history = tt; queues = tt }) (controller_of b n) refl y g m (e ∙ ap (plain step_done) same)

-- ---- the answer of a step that sends

pub sends : (allowed full : Bool) → send_answer allowed full ≡ step_done → full ≡ false
sends true true e = absurd (omega arith)
sends true false e = refl
sends false full e = absurd (omega arith)

module _ (b : Body) (n : ℕ) (a : At b n) where
  -- ---- a response that waits has an id in range

  small : (m : S.Message) (t : S.Status) (id : ℕ) → AnswerFits m t id → id ≤ top_id
  small S.update S.ok id h = h
  small S.update S.already_exists id h = h
  small S.update S.not_found id h = h
  small S.update S.permission_denied id h = absurd h
  small S.write S.ok id h = omega arith
  small S.write S.already_exists id h = absurd h
  small S.write S.not_found id h = absurd h
  small S.write S.permission_denied id h = omega arith

  waits-not-empty : (o e u : Bool) → (o && not e && u) ≡ true → e ≡ false
  waits-not-empty true true u h = sym h
  waits-not-empty false true u h = sym h
  waits-not-empty o false u h = refl

  pub waits : update_waits (stream_of b n) ≡ true → Waits (stream_of b n)
  unfolding hold_core hold_board
  waits h =
      let q = hold_responses (stream_of b n).responses in
      let some = waits-not-empty (stream_of b n).opened (empty q) (is_update (first R.no_response q).message) h in
      let e : get_or (column responses_at b.count b.core.streams) (n - 1) [] ≡ q = column-at responses_at b.count (n - 1) b.core.streams past_stream (row_in b n a) in
      let r = first R.no_response q in
      record {
        ordered = stream-ordered b n a;
        some = some;
        small = small r.message r.status r.id (queue-first ResponseFits R.no_response q (rw some tt) (rw e at ((fits-core b a.ready).board.streams (n - 1)).responses-fit));
      }
