-- What the code reads of node n's rows is what the rule's class reads of the state. Assumes nothing.
use Rattle.std.specs.Prelude.{◌≡◌, List, ℕ, ◌-◌, ◌<◌, get_or}
use Rattle.std.proofs.Math.Path.{sym}
use Rattle.std.proofs.Math.ListN.{length}
use Rattle.rules.specs.State as S
use Rattle.rules.specs.Parts.{learn_part, send_part, receive_part, link_part, serve_part, on_device}
use Rattle.any_list.specs.Arrays.{column}
use Rattle.any_list.specs.Columns.{column-at}
use Rattle.step_state.specs.Hold.{events_at, learned_at, says_at, open_at, sent_at, requests_at, responses_at, id_at, term_at, hold_core, hold_desk, hold_held, hold_board}
use Rattle.step_state.specs.Order.{past_controller, past_stream}
use Rattle.step_state.specs.Reads.{inbox_of, sender_of, receiver_of, linked_of, served_of}
use Rattle.step_state.specs.declared.Controller.{Controller}
use Rattle.step_state.specs.declared.Stream.{Stream}
use Rattle.step_state.specs.declared.Body.{Body}
use Rattle.step_moves.specs.Bodies.{state_of}

module _ (b : Body) (n : ℕ) where
  abbrev pub controller_of : Controller
  controller_of = get_or b.core.controllers (n - 1) past_controller

  abbrev pub stream_of : Stream
  stream_of = get_or b.core.streams (n - 1) past_stream

module _ (b : Body) (n : ℕ) (lt : n - 1 < b.count) (history : List S.Write) where
  in-controllers : {B : Type 0} (f : Controller → B) → f (controller_of b n) ≡ get_or (column f b.count b.core.controllers) (n - 1) (f past_controller)
  in-controllers f = sym (column-at f b.count (n - 1) b.core.controllers past_controller lt)

  in-streams : {B : Type 0} (f : Stream → B) → f (stream_of b n) ≡ get_or (column f b.count b.core.streams) (n - 1) (f past_stream)
  in-streams f = sym (column-at f b.count (n - 1) b.core.streams past_stream lt)

  pub inbox-read : inbox_of (controller_of b n) ≡ (learn_part n).get (state_of b history)
  unfolding hold_core hold_desk
  inbox-read = λ j. record { events = in-controllers events_at j; learned = in-controllers learned_at j }

  pub sender-read : sender_of b.count (controller_of b n) (stream_of b n) ≡ (send_part n).get (state_of b history)
  unfolding hold_core hold_board
  sender-read = λ j. record {
    count = b.count;
    learned = in-controllers learned_at j;
    says = in-controllers says_at j;
    is_open = in-streams open_at j;
    sent = in-streams sent_at j;
    requests = in-streams requests_at j;
  }

  pub receiver-read : receiver_of b.count (controller_of b n) (stream_of b n) ≡ (receive_part n).get (state_of b history)
  unfolding hold_core hold_board
  receiver-read = λ j. record {
    count = b.count;
    learned = in-controllers learned_at j;
    says = in-controllers says_at j;
    is_open = in-streams open_at j;
    sent = in-streams sent_at j;
    responses = in-streams responses_at j;
  }

  pub linked-read : linked_of b.running (stream_of b n) ≡ (on_device (link_part n)).get (state_of b history)
  unfolding hold_core hold_board
  linked-read = λ j. record { running = b.running; is_open = in-streams open_at j }

  pub served-read : served_of n b.running (stream_of b n) b.core.claims (length history) ≡ (on_device (serve_part n)).get (state_of b history)
  unfolding hold_core hold_board hold_held
  served-read = let s = (on_device (serve_part n)).get (state_of b history) in λ j. record {
    running = b.running;
    is_open = in-streams open_at j;
    requests = in-streams requests_at j;
    responses = in-streams responses_at j;
    id = sym (column-at id_at b.count (n - 1) b.core.claims.ids (record { 0 = 0 }) lt) j;
    master = s.master;
    term = sym (column-at term_at b.count (n - 1) b.core.claims.terms (record { 0 = 0 }) lt) j;
    last = s.last;
    writes = length history;
  }
