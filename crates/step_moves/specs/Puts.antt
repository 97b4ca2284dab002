-- What the code stores into the structs of a state is what the rule's class writes into the state. Assumes nothing.
use Rattle.std.specs.Prelude.{◌≡◌, Bool, ℕ, ◌<◌, length, get_or, set}
use Rattle.std.proofs.Common.{sym, get_or-set_same, get_or-set_other}
use Rattle.std.proofs.Math.Path.{ap, ap₂}
use Rattle.std.proofs.Math.Bool.{false}
use mathlib.Core.List.{List, []}
use Rattle.rules.specs.Limits.{most_nodes}
use Rattle.rules.specs.State as S
use Rattle.rules.specs.Parts.{Inbox, Sent, Received, Serving}
use Rattle.any_list.specs.Tables.{table-get, table-set}
use Rattle.step_state.specs.Hold.{pack_controller, pack_stream, controller_row, stream_row, pack_controllers, pack_streams}
use Rattle.step_state.specs.Stores.{store_inbox, store_sent, store_says, store_received, store_open, store_serving}
use Rattle.step_state.specs.Order.{past_controller, past_stream}

-- ---- a row of the arrays

pub controller-at : (events : List (List S.Mastership)) (learned : List S.Mastership) (says : List Bool) (i : ℕ) → i < most_nodes
    → get_or (pack_controllers events learned says) i past_controller ≡ controller_row events learned says i
unfolding pack_controllers
controller-at events learned says i h = table-get most_nodes (controller_row events learned says) i past_controller h

pub stream-at : (w : S.Board) (i : ℕ) → i < most_nodes → get_or (pack_streams w) i past_stream ≡ stream_row w i
unfolding pack_streams
stream-at w i h = table-get most_nodes (stream_row w) i past_stream h

-- ---- one row of the nodes

module _ (events : List (List S.Mastership)) (learned : List S.Mastership) (says : List Bool) (j : ℕ) where
  pub inbox-stored : (w : Inbox) → j < length events → j < length learned
      → set (pack_controllers events learned says) j (store_inbox w (controller_row events learned says j)) ≡ pack_controllers (set events j w.events) (set learned j w.learned) says
  unfolding pack_controllers
  inbox-stored w h k = table-set most_nodes (controller_row events learned says) (controller_row (set events j w.events) (set learned j w.learned) says) j (store_inbox w (controller_row events learned says j))
      (sym (ap₂ (λ (q : List S.Mastership) (m : S.Mastership). pack_controller q m (get_or says j false)) (get_or-set_same events j w.events [] h) (get_or-set_same learned j w.learned S.blank k)))
      (λ i z. ap₂ (λ (q : List S.Mastership) (m : S.Mastership). pack_controller q m (get_or says i false)) (get_or-set_other events j i w.events [] z) (get_or-set_other learned j i w.learned S.blank z))

  pub says-stored : (w : Received) → j < length says
      → set (pack_controllers events learned says) j (store_says w (controller_row events learned says j)) ≡ pack_controllers events learned (set says j w.says)
  unfolding pack_controllers
  says-stored w h = table-set most_nodes (controller_row events learned says) (controller_row events learned (set says j w.says)) j (store_says w (controller_row events learned says j))
      (sym (ap (pack_controller (get_or events j []) (get_or learned j S.blank)) (get_or-set_same says j w.says false h)))
      (λ i z. ap (pack_controller (get_or events i []) (get_or learned i S.blank)) (get_or-set_other says j i w.says false z))

-- ---- one row of the streams

module _ (w : S.Board) (j : ℕ) where
  pub sent-stored : (v : Sent) → j < length w.sent → j < length w.requests
      → set (pack_streams w) j (store_sent v (stream_row w j)) ≡ pack_streams (record {
        opens = w.opens;
        sent = set w.sent j v.sent;
        requests = set w.requests j v.requests;
        responses = w.responses;
        held = w.held;
        terms = w.terms;
        last = w.last;
      })
  unfolding pack_streams
  sent-stored v h k = table-set most_nodes (stream_row w) _ j (store_sent v (stream_row w j))
      (sym (ap₂ (λ (t : ℕ) (q : List S.Request). pack_stream (get_or w.opens j false) t q (get_or w.responses j [])) (get_or-set_same w.sent j v.sent 0 h) (get_or-set_same w.requests j v.requests [] k)))
      (λ i z. ap₂ (λ (t : ℕ) (q : List S.Request). pack_stream (get_or w.opens i false) t q (get_or w.responses i [])) (get_or-set_other w.sent j i v.sent 0 z) (get_or-set_other w.requests j i v.requests [] z))

  pub received-stored : (v : Received) → j < length w.responses
      → set (pack_streams w) j (store_received v (stream_row w j)) ≡ pack_streams (record {
        opens = w.opens;
        sent = w.sent;
        requests = w.requests;
        responses = set w.responses j v.responses;
        held = w.held;
        terms = w.terms;
        last = w.last;
      })
  unfolding pack_streams
  received-stored v h = table-set most_nodes (stream_row w) _ j (store_received v (stream_row w j))
      (sym (ap (pack_stream (get_or w.opens j false) (get_or w.sent j 0) (get_or w.requests j [])) (get_or-set_same w.responses j v.responses [] h)))
      (λ i z. ap (pack_stream (get_or w.opens i false) (get_or w.sent i 0) (get_or w.requests i [])) (get_or-set_other w.responses j i v.responses [] z))

  pub open-stored : (v : Bool) → j < length w.opens
      → set (pack_streams w) j (store_open v (stream_row w j)) ≡ pack_streams (record {
        opens = set w.opens j v;
        sent = w.sent;
        requests = w.requests;
        responses = w.responses;
        held = w.held;
        terms = w.terms;
        last = w.last;
      })
  unfolding pack_streams
  open-stored v h = table-set most_nodes (stream_row w) _ j (store_open v (stream_row w j))
      (sym (ap (λ (o : Bool). pack_stream o (get_or w.sent j 0) (get_or w.requests j []) (get_or w.responses j [])) (get_or-set_same w.opens j v false h)))
      (λ i z. ap (λ (o : Bool). pack_stream o (get_or w.sent i 0) (get_or w.requests i []) (get_or w.responses i [])) (get_or-set_other w.opens j i v false z))

  pub serving-stored : (v : Serving) → j < length w.requests → j < length w.responses
      → set (pack_streams w) j (store_serving v (stream_row w j)) ≡ pack_streams (record {
        opens = w.opens;
        sent = w.sent;
        requests = set w.requests j v.requests;
        responses = set w.responses j v.responses;
        held = w.held;
        terms = w.terms;
        last = v.last;
      })
  unfolding pack_streams
  serving-stored v h k = table-set most_nodes (stream_row w) _ j (store_serving v (stream_row w j))
      (sym (ap₂ (pack_stream (get_or w.opens j false) (get_or w.sent j 0)) (get_or-set_same w.requests j v.requests [] h) (get_or-set_same w.responses j v.responses [] k)))
      (λ i z. ap₂ (pack_stream (get_or w.opens i false) (get_or w.sent i 0)) (get_or-set_other w.requests j i v.requests [] z) (get_or-set_other w.responses j i v.responses [] z))
