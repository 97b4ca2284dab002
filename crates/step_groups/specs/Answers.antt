-- A rule's answer, by the tests that the code makes. Assumes nothing.
use Rattle.std.specs.Prelude.{◌≡◌, Bool, List, ℕ}
use Rattle.std.proofs.Math.Path.{refl}
use Rattle.std.proofs.Math.Bool.{true, false, not, cond}
use Rattle.std.proofs.Math.Dec.{leb}
use Rattle.rules.specs.Codes.{step_done, not_allowed, term_limit, history_full, queue_full}
use Rattle.rules.specs.Limits.{queue_length}
use Rattle.rules.specs.Queues.{room}
use Rattle.rules.specs.Part.{Rule, done, need, decide}
use Rattle.rules.specs.Parts.{Sender, Sent}
use Rattle.rules.specs.Rules.{learn_rule, send_update_rule, receive_update_rule, send_write_rule, receive_write_rule, close_rule, close_room, closed, held_left, opens_left, responses_left, shutdown_rule, startup_rule}
use Rattle.any_list.specs.Queue.{room-held}
use Rattle.step_parts.specs.Hold.{no_request, pack_request, hold_request, places, hold_requests}
use Rattle.step_state.specs.Order.{OrderedStream}
use Rattle.step_state.specs.Reads.{answer_of, inbox_of, sender_of, receiver_of, told_of, power_of}
use Rattle.step_state.specs.declared.Controller.{Controller}
use Rattle.step_state.specs.declared.Stream.{Stream}
use Rattle.step_state.specs.declared.Claims.{Claims}
use Rattle.step_nodes.specs.Waiting.{send_answer, update_waits, write_waits}

-- ---- a rule that asks for no room

module _ {R W : Type 0} (r : Rule R W) (v : R) where
  allowed-answer : r.term_left v ≡ true → r.history_left v ≡ true → r.queues_left v ≡ true → cond (r.allowed v) step_done not_allowed ≡ answer_of (decide r v)
  unfolding decide
  allowed-answer t h q = rw (t, h, q) (go (r.allowed v))
    where
      go : (b : Bool) → cond b step_done not_allowed ≡ answer_of (need b not_allowed (need true term_limit (need true history_full (need true queue_full (done step_done (r.effect v))))))
      go true = refl
      go false = refl

pub learn-answer : (controller : Controller) → cond (learn_rule.allowed (inbox_of controller)) step_done not_allowed ≡ answer_of (decide learn_rule (inbox_of controller))
unfolding learn_rule
learn-answer controller = allowed-answer learn_rule (inbox_of controller) refl refl refl

module _ (count : ℕ) (controller : Controller) (stream : Stream) where
  pub receive-update-answer : (n : ℕ) → cond (update_waits stream) step_done not_allowed ≡ answer_of (decide (receive_update_rule n) (receiver_of count controller stream))
  unfolding receive_update_rule
  receive-update-answer n = allowed-answer (receive_update_rule n) (receiver_of count controller stream) refl refl refl

  pub receive-write-answer : cond (write_waits stream) step_done not_allowed ≡ answer_of (decide receive_write_rule (receiver_of count controller stream))
  unfolding receive_write_rule
  receive-write-answer = allowed-answer receive_write_rule (receiver_of count controller stream) refl refl refl

module _ (count : ℕ) (running : Bool) (streams : List Stream) (claims : Claims) where
  pub shutdown-answer : cond running step_done not_allowed ≡ answer_of (decide shutdown_rule (power_of count running streams claims))
  unfolding shutdown_rule
  shutdown-answer = allowed-answer shutdown_rule (power_of count running streams claims) refl refl refl

  pub startup-answer : cond (not running) step_done not_allowed ≡ answer_of (decide startup_rule (power_of count running streams claims))
  unfolding startup_rule
  startup-answer = allowed-answer startup_rule (power_of count running streams claims) refl refl refl

  -- Close does not ask whether the switch runs.
  pub close-answer : (n : ℕ) → answer_of (decide (close_rule n) (told_of count n true streams claims)) ≡ answer_of (decide (close_rule n) (told_of count n running streams claims))
  unfolding decide close_rule close_room closed held_left opens_left responses_left
  close-answer n = refl

-- ---- a step that sends: room for one request more

module _ (count : ℕ) (controller : Controller) (stream : Stream) (o : OrderedStream stream) where
  abbrev v : Sender
  v = sender_of count controller stream

  send-answer : (r : Rule Sender Sent) → r.term_left v ≡ true → r.history_left v ≡ true → r.queues_left v ≡ room v.requests
      → send_answer (r.allowed v) (leb queue_length stream.requests.len) ≡ answer_of (decide r v)
  unfolding decide
  send-answer r t h q =
      let full = leb queue_length stream.requests.len in
      let f : room (hold_requests stream.requests) ≡ not full = room-held no_request pack_request hold_request (places stream.requests) o.requests in
      rw (t, h, q, f) (go (r.allowed v) full)
    where
      go : (allowed full : Bool) → send_answer allowed full ≡ answer_of (need allowed not_allowed (need true term_limit (need true history_full (need (not full) queue_full (done step_done (r.effect v))))))
      go true true = refl
      go true false = refl
      go false full = refl

  pub send-update-answer : (n : ℕ) → send_answer ((send_update_rule n).allowed (sender_of count controller stream)) (leb queue_length stream.requests.len) ≡ answer_of (decide (send_update_rule n) (sender_of count controller stream))
  unfolding send_update_rule
  send-update-answer n = send-answer (send_update_rule n) refl refl refl

  pub send-write-answer : (n : ℕ) → send_answer ((send_write_rule n).allowed (sender_of count controller stream)) (leb queue_length stream.requests.len) ≡ answer_of (decide (send_write_rule n) (sender_of count controller stream))
  unfolding send_write_rule
  send-write-answer n = send-answer (send_write_rule n) refl refl refl
