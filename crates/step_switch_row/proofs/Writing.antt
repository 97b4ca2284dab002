-- Handling a write: what the code reads is what the rule reads, and its stores are what the rule writes. Assumes nothing.
use mathlib.Core.Path.{◌≡◌, refl, sym, ap, ◌∙◌}
use mathlib.Core.Bool.{Bool, true, false, not, ◌||◌}
use Rattle.std.specs.Prelude.{Some, None}
use Prim.Native.Nat.{ℕ, ◌-◌}
use lib.Dec.{leb, ltb}
use lib.ListN.{get_or}
use Rattle.rules.specs.Limits.{queue_length, history_length}
use Rattle.rules.specs.Codes.{not_allowed}
use Rattle.rules.specs.State as S
use Rattle.rules.specs.Queues.{push, first, rest}
use Rattle.rules.specs.Part.{decide}
use Rattle.rules.specs.Parts.{Served}
use Rattle.rules.specs.Rules.{no_request, is_write, accepts, write_answer, handle_write_rule}
use Rattle.any_list.specs.Queue.{room-held}
use Rattle.step_parts.specs.Hold.{hold_requests, hold_responses, pack_requests, pack_response, pack_responses, pack_write, hold_response, no_response, places}
use Rattle.step_parts.specs.Ordered.{pop-requests, push-responses}
use Rattle.step_parts.specs.declared.Message.TheVariants as M
use Rattle.step_state.specs.Reads.{answer_of, served_of}
use Rattle.step_state.specs.declared.Stream.{Stream}
use Rattle.step_state.specs.declared.Claims.{Claims}
use Rattle.step_streams.specs.Asks.{HasHead}
use Rattle.step_streams.specs.Does.{responded, without_head, waiting}
use Rattle.step_streams.proofs.Answers.{answer-by, by_tests}
use Rattle.step_streams.proofs.Waiting.{ready, running-too, message, write-waits, no-write-waits}
use Rattle.step_switch_row.specs.Asks.{AtStream, WriteAt, CanWrite}
use Rattle.step_switch_row.specs.Does.{judged}
use Rattle.step_switch_row.specs.Handled.{store_handled}

-- the id of the write at the head
abbrev pub head_id : Stream → ℕ
head_id s = (first no_request (hold_requests s.requests)).id

module _ {n : ℕ} {s : Stream} (h : AtStream n s) (claims : Claims) where
  -- a write that waits may be handled
  pub write-at : (running : Bool) → waiting running s ≡ M.Write → WriteAt n s claims
  unfolding handle_write_rule
  write-at running e = record { at = h; allowed = running-too running s (is_write (message s)) (write-waits running s e) }

  -- it waits where the switch runs
  pub write-runs : (running : Bool) (writes : ℕ) → waiting running s ≡ M.Write
      → answer_of (decide (handle_write_rule n) (served_of n true s claims writes)) ≡ answer_of (decide (handle_write_rule n) (served_of n running s claims writes))
  write-runs running writes e =
      ap (λ (b : Bool). answer_of (decide (handle_write_rule n) (served_of n b s claims writes))) (sym (ready running s (is_write (message s)) (write-waits running s e)).runs)

  pub no-write : (running : Bool) (writes : ℕ) → (waiting running s ≡ M.Write → ⊥) → answer_of (decide (handle_write_rule n) (served_of n running s claims writes)) ≡ not_allowed
  unfolding handle_write_rule
  no-write running writes e =
      let v = served_of n running s claims writes in
      answer-by (handle_write_rule n) v false true ((handle_write_rule n).history_left v) ((handle_write_rule n).queues_left v) (no-write-waits running s e) refl refl refl

module _ {n : ℕ} {s : Stream} {claims : Claims} (u : WriteAt n s claims) where
  pub has-head : HasHead s
  unfolding handle_write_rule
  has-head = record { ordered = u.at.ordered; some = (ready true s (is_write (message s)) u.allowed).some }

  -- the answer by the room that is left
  pub write-answer : (writes : ℕ) (t q : Bool) → (not (judged n (head_id s) claims) || ltb writes history_length) ≡ t → not (leb queue_length s.responses.len) ≡ q
      → answer_of (decide (handle_write_rule n) (served_of n true s claims writes)) ≡ by_tests true true t q
  unfolding handle_write_rule accepts judged
  write-answer writes t q e f =
      answer-by (handle_write_rule n) (served_of n true s claims writes) true true t q u.allowed refl e
      (room-held no_response pack_response hold_response (places s.responses) u.at.ordered.responses ∙ f)

module _ {n : ℕ} {s : Stream} {claims : Claims} (u : CanWrite n s claims) where
  full-not : (b : Bool) → not b ≡ true → b ≡ false
  full-not true e = sym e
  full-not false e = refl

  -- the stream, answered
  answered : (status : S.Status) → responded (pack_response (write_answer status)) (without_head s)
      ≡ record { opened = s.opened; sent = s.sent; requests = pack_requests (rest (hold_requests s.requests)); responses = pack_responses (push (write_answer status) (hold_responses s.responses)) }
  answered status =
      let o = u.head.at.ordered in
      let space = full-not (leb queue_length s.responses.len) (sym (room-held no_response pack_response hold_response (places s.responses) o.responses) ∙ u.roomy) in
      λ i. record {
        opened = s.opened;
        sent = s.sent;
        requests = pop-requests s.requests o.requests i;
        responses = push-responses s.responses (write_answer status) o.responses space i;
      }

  abbrev v : Served
  v = served_of n true s claims 0

  pub accepted : judged n (head_id s) claims ≡ true → record {
    stream = responded (pack_response (write_answer S.ok)) (without_head s);
    last = get_or claims.terms (n - 1) (record { 0 = 0 });
    accepted = Some (pack_write (record { node = n; term = (first no_request (hold_requests s.requests)).term }));
  } ≡ store_handled ((handle_write_rule n).effect v) s
  unfolding store_handled handle_write_rule accepts judged first
  accepted e = (λ i. record {
    stream = answered S.ok i;
    last = get_or claims.terms (n - 1) (record { 0 = 0 });
    accepted = Some (pack_write (record { node = n; term = (first no_request (hold_requests s.requests)).term }));
  }) ∙ simp e

  pub denied : judged n (head_id s) claims ≡ false
      → record { stream = responded (pack_response (write_answer S.permission_denied)) (without_head s); last = claims.last; accepted = None }
      ≡ store_handled ((handle_write_rule n).effect v) s
  unfolding store_handled handle_write_rule accepts judged first
  denied e = (λ i. record { stream = answered S.permission_denied i; last = claims.last; accepted = None }) ∙ simp e
