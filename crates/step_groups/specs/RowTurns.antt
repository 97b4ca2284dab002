-- Steps at a node and its stream, on a body in range: the answer is the rules', and what is left is what they leave. Assumes nothing.
use Rattle.std.specs.Prelude.{◌≡◌, ◌≢◌, Bool, false, cond, ℕ, ◌-◌, length, set}
use Rattle.std.proofs.Math.Path.{refl, ap}
use Rattle.std.proofs.Common.{sym, subst, ◌∙◌, ⊎_elim, arith}
use Rattle.std.proofs.Math.Bool.{true}
use mathlib.Core.List.{List}
use Rattle.std.proofs.lemmas.List.{set-get_or}
use Rattle.rules.specs.Codes.{step_done, not_allowed}
use Rattle.rules.specs.State as S
use Rattle.rules.specs.Range.{within}
use Rattle.rules.specs.Part.{decide}
use Rattle.rules.specs.Rules as R
use Rattle.rules.specs.Parts.{Serving}
use Rattle.rules.specs.Step.{kind_of, act, of_kind}
use Rattle.step_state.specs.Order.{past_controller}
use Rattle.step_state.specs.Reads.{answer_of, inbox_of, sender_of, served_of}
use Rattle.step_state.specs.Stores.{store_inbox, hold_accepted}
use Rattle.step_state.specs.declared.Controller.{Controller}
use Rattle.step_state.specs.declared.Stream.{Stream}
use Rattle.step_state.specs.declared.Body.{Body}
use Rattle.step_moves.specs.Bodies.{state_of, Leaves, Left}
use Rattle.step_moves.specs.Sets.{with_desk, with_controller, with_stream, with_last}
use Rattle.step_moves.specs.Gets.{controller_of, stream_of, inbox-read, sender-read, receiver-read, linked-read, served-read}
use Rattle.step_moves.specs.Acts.{plain, passes}
use Rattle.step_switch_row.specs.Handled.{store_handled}
use Rattle.step_switch_row.specs.declared.Handled.{Handled}
use Rattle.step_switch_row.proofs.Callers.{write-can, write-effect, accepted-back}
use Rattle.step_asks.specs.Kinds.{RowKind, learns, send_update, receive_update, send_write, receive_write, connect, handle_write, inside}
use Rattle.step_groups.specs.At.{At, row_in}
use Rattle.step_groups.specs.Nodes.{controller-ordered, stream-ordered, learn-yes, send-yes, receive-update-yes, receive-write-yes, sends, waits}
use Rattle.step_groups.specs.Switch.{at-stream, link-yes, serve-yes}
use Rattle.step_groups.specs.declared.Row.{Row}
use Rattle.step_groups.specs.Turns.{row_answer, quiet, row_after}
use Rattle.step_groups.specs.Asks.{RowAsks, RowGoes}
use Rattle.step_groups.specs.Answers.{learn-answer, send-update-answer, receive-update-answer, send-write-answer, receive-write-answer}
use Rattle.step_groups.specs.Called.{ask_of, called-answer, called-leaves}

-- The body with a row anew.
abbrev pub row_body : Body → ℕ → Row → Body
row_body b n r = record {
  count = b.count;
  running = b.running;
  core = record {
    service = b.core.service;
    controllers = set b.core.controllers (n - 1) (record { events = (controller_of b n).events; learned = (controller_of b n).learned; says = r.says });
    streams = set b.core.streams (n - 1) r.stream;
    claims = r.claims;
  };
}

abbrev pub row_moved : Body → ℕ → Row → Left
row_moved b n r = record { code = step_done; body = row_body b n r; accepted = r.accepted }

is_true : (b : Bool) → cond b step_done not_allowed ≡ step_done → b ≡ true
is_true true e = refl
is_true false e = absurd (omega arith)

module _ (b : Body) (n : ℕ) (a : At b n) where
  is-node : within 1 b.count n ≡ true
  is-node = inside 1 b.count n a.low a.high

  -- The answer of kind k at the node, on the rows that the body holds.
  abbrev pub answer_at : ℕ → ℕ → ℕ
  answer_at writes k = row_answer (ask_of b k n) writes (controller_of b n) (stream_of b n) b.core.claims

  pub row-asks : (k : ℕ) → RowKind k → RowAsks (ask_of b k n) (controller_of b n) (stream_of b n)
  row-asks k r = record {
    kind = r;
    within = record { few = a.few; from = a.low; upto = a.high };
    ordered-controller = controller-ordered b n a;
    ordered-stream = stream-ordered b n a;
  }

  pub row-answered : (history : List S.Write) (k : ℕ) → RowKind k
      → row_answer (ask_of b k n) (length history) (controller_of b n) (stream_of b n) b.core.claims ≡ (of_kind (kind_of k) n (state_of b history)).answer
  row-answered history _ learns = called-answer b n history 3 R.learns refl is-node _ (inbox-read b n (row_in b n a) history)
  row-answered history _ send_update = called-answer b n history 4 R.send_update refl is-node _ (sender-read b n (row_in b n a) history)
  row-answered history _ receive_update = called-answer b n history 5 R.receive_update refl is-node _ (receiver-read b n (row_in b n a) history)
  row-answered history _ send_write = called-answer b n history 6 R.send_write refl is-node _ (sender-read b n (row_in b n a) history)
  row-answered history _ receive_write = called-answer b n history 7 R.receive_write refl is-node _ (receiver-read b n (row_in b n a) history)
  row-answered history _ connect = called-answer b n history 8 R.connect refl is-node _ (linked-read b n (row_in b n a) history)
  row-answered history _ handle_write = called-answer b n history 11 R.handle_write refl is-node _ (served-read b n (row_in b n a) history)

  -- ---- where the answer is 0

  pub row_goes : (writes k : ℕ) → RowKind k → row_answer (ask_of b k n) writes (controller_of b n) (stream_of b n) b.core.claims ≡ step_done → RowGoes (ask_of b k n) (controller_of b n) (stream_of b n) b.core.claims
  row_goes writes k r z = record {
    asks = row-asks k r;
    roomy = λ e. ⊎_elim
        (λ (f : k ≡ 4). sends ((R.send_update_rule n).allowed (sender_of b.count (controller_of b n) (stream_of b n))) _ (send-update-answer b.count (controller_of b n) (stream_of b n) (stream-ordered b n a) n ∙ at 4 f))
        (λ (f : k ≡ 6). sends ((R.send_write_rule n).allowed (sender_of b.count (controller_of b n) (stream_of b n))) _ (send-write-answer b.count (controller_of b n) (stream_of b n) (stream-ordered b n a) n ∙ at 6 f)) e;
    waits = λ f. waits b n a (is_true _ (receive-update-answer b.count (controller_of b n) (stream_of b n) n ∙ at 5 f));
    can_write = λ f. write-can n b.running (stream_of b n) b.core.claims writes (at-stream b n a) (at 11 f);
  }
    where
      at : (j : ℕ) → k ≡ j → answer_at writes j ≡ step_done
      at j e = subst (λ (i : ℕ). answer_at writes i ≡ step_done) e z

  same-controllers : set b.core.controllers (n - 1) (controller_of b n) ≡ b.core.controllers
  same-controllers = set-get_or b.core.controllers (n - 1) past_controller

  quiet-moved : (x : Stream) → row_moved b n (quiet (controller_of b n) b.core.claims x) ≡ plain step_done (with_stream n x b)
  quiet-moved x = ap (λ (l : List Controller). plain step_done (with_desk b.core.service l (with_stream n x b))) same-controllers

  module _ (history : List S.Write) where
    pub learn-leaves : answer_of (decide R.learn_rule (inbox_of (controller_of b n))) ≡ step_done → (x : Controller) → x ≡ store_inbox ((R.learn_rule).effect (inbox_of (controller_of b n))) (controller_of b n)
        → Leaves history (of_kind (kind_of 3) n (state_of b history)) (plain step_done (with_controller n x b))
    learn-leaves z x e = called-leaves b n history 3 R.learns refl is-node (learn-yes b n a history (is_true _ (learn-answer (controller_of b n) ∙ z)) x e _ refl)

    write-leaves : answer_at (length history) 11 ≡ step_done → Leaves history (act R.handle_write n (state_of b history)) (row_moved b n (row_after (ask_of b 11 n) (controller_of b n) (stream_of b n) b.core.claims))
    unfolding store_handled
    write-leaves z =
        let rule = R.handle_write_rule n in
        let v = served_of n b.running (stream_of b n) b.core.claims (length history) in
        let done : store_handled (rule.effect (served_of n true (stream_of b n) b.core.claims 0)) (stream_of b n) ≡ store_handled (rule.effect v) (stream_of b n) =
        ap (λ (w : Serving). store_handled w (stream_of b n)) (write-effect n b.running (stream_of b n) b.core.claims (length history)) in
        serve-yes b n a history rule (passes rule v z) _ refl
        (ap (λ (l : List Controller). with_desk b.core.service l (row_body b n (row_after (ask_of b 11 n) (controller_of b n) (stream_of b n) b.core.claims))) same-controllers
        ∙ ap (λ (h : Handled). with_last h.last (with_stream n h.stream b)) done)
        (sym (accepted-back n v (stream_of b n)) ∙ ap (λ (h : Handled). hold_accepted h.accepted) (sym done))

    pub row-leaves : (k : ℕ) → RowKind k → k ≢ 3 → row_answer (ask_of b k n) (length history) (controller_of b n) (stream_of b n) b.core.claims ≡ step_done
        → Leaves history (of_kind (kind_of k) n (state_of b history)) (row_moved b n (row_after (ask_of b k n) (controller_of b n) (stream_of b n) b.core.claims))
    unfolding R.connect_rule
    row-leaves _ learns h z = absurd (h refl)
    row-leaves _ send_update h z = called-leaves b n history 4 R.send_update refl is-node (send-yes b n a history (R.send_update_rule n) z _ refl _ (quiet-moved _))
    row-leaves _ receive_update h z = called-leaves b n history 5 R.receive_update refl is-node
        (receive-update-yes b n a history (is_true _ (receive-update-answer b.count (controller_of b n) (stream_of b n) n ∙ z)) _ refl _ refl _ refl)
    row-leaves _ send_write h z = called-leaves b n history 6 R.send_write refl is-node (send-yes b n a history (R.send_write_rule n) z _ refl _ (quiet-moved _))
    row-leaves _ receive_write h z = called-leaves b n history 7 R.receive_write refl is-node
        (receive-write-yes b n a history (is_true _ (receive-write-answer b.count (controller_of b n) (stream_of b n) ∙ z)) _ refl _ (quiet-moved _))
    row-leaves _ connect h z = called-leaves b n history 8 R.connect refl is-node (link-yes b n a history R.connect_rule z _ refl _ (quiet-moved _))
    row-leaves _ handle_write h z = called-leaves b n history 11 R.handle_write refl is-node (write-leaves z)
