-- What a state of structs holds, in the words of the rules, and how a state of the rules is written into structs.
use Rattle.std.specs.Prelude.{Bool, false, List, [], ℕ, length, get_or}
use Rattle.rules.specs.Limits.{most_nodes, history_length}
use Rattle.rules.specs.State as S
use Rattle.any_list.specs.Arrays.{column, table, padded}
use Rattle.step_parts.specs.declared.Mastership.{Mastership}
use Rattle.step_parts.specs.declared.ElectionId.{ElectionId}
use Rattle.step_parts.specs.declared.Term.{Term}
use Rattle.step_parts.specs.declared.Write.{Write}
use Rattle.step_parts.specs.Hold.{hold_mastership, pack_mastership, hold_events, pack_events, hold_requests, pack_requests, hold_responses, pack_responses, hold_write, pack_write}
use Rattle.step_state.specs.declared.Controller.{Controller}
use Rattle.step_state.specs.declared.Stream.{Stream}
use Rattle.step_state.specs.declared.Elected.{Elected}
use Rattle.step_state.specs.declared.Claims.{Claims}
use Rattle.step_state.specs.declared.Core.{Core}
use Rattle.step_state.specs.declared.History.{History}
use Rattle.step_state.specs.declared.State.{State}

-- ---- reading: the columns of the first `count` rows

abbrev pub events_at : Controller → List S.Mastership
events_at r = hold_events r.events

abbrev pub learned_at : Controller → S.Mastership
learned_at r = hold_mastership r.learned

abbrev pub says_at : Controller → Bool
says_at r = r.says

abbrev pub open_at : Stream → Bool
open_at r = r.opened

abbrev pub sent_at : Stream → ℕ
sent_at r = r.sent.0

abbrev pub requests_at : Stream → List S.Request
requests_at r = hold_requests r.requests

abbrev pub responses_at : Stream → List S.Response
responses_at r = hold_responses r.responses

abbrev pub id_at : ElectionId → ℕ
id_at i = i.0

abbrev pub term_at : Term → ℕ
term_at t = t.0

unfoldable pub hold_desk : ℕ → Mastership → List Controller → S.Desk
hold_desk count service controllers = record { service = hold_mastership service; events = column events_at count controllers }

unfoldable pub hold_held : ℕ → Claims → S.Held
hold_held count claims = record {
  ids = column id_at count claims.ids;
  master = claims.elected.master;
  largest = claims.elected.largest.0;
}

unfoldable pub hold_board : ℕ → List Stream → Claims → S.Board
hold_board count streams claims = record {
  opens = column open_at count streams;
  sent = column sent_at count streams;
  requests = column requests_at count streams;
  responses = column responses_at count streams;
  held = hold_held count claims;
  terms = column term_at count claims.terms;
  last = claims.last.0;
}

unfoldable pub hold_core : ℕ → Core → S.Core
hold_core count c = record {
  desk = hold_desk count c.service c.controllers;
  learned = column learned_at count c.controllers;
  says = column says_at count c.controllers;
  board = hold_board count c.streams c.claims;
}

unfoldable pub hold_history : History → List S.Write
hold_history h = column hold_write h.len h.items

unfoldable pub hold : State → S.State
hold s = record {
  count = s.count;
  running = s.running;
  history = hold_history s.history;
  core = hold_core s.count s.core;
}

-- ---- writing: eight rows, blank where a column has ended

abbrev pub pack_controller : List S.Mastership → S.Mastership → Bool → Controller
pack_controller events learned says = record { events = pack_events events; learned = pack_mastership learned; says = says }

abbrev pub pack_stream : Bool → ℕ → List S.Request → List S.Response → Stream
pack_stream is_open sent requests responses = record {
  opened = is_open;
  sent = record { 0 = sent };
  requests = pack_requests requests;
  responses = pack_responses responses;
}

abbrev pub controller_row : List (List S.Mastership) → List S.Mastership → List Bool → ℕ → Controller
controller_row events learned says i = pack_controller (get_or events i []) (get_or learned i S.blank) (get_or says i false)

abbrev pub stream_row : S.Board → ℕ → Stream
stream_row w i = pack_stream (get_or w.opens i false) (get_or w.sent i 0) (get_or w.requests i []) (get_or w.responses i [])

unfoldable pub pack_controllers : List (List S.Mastership) → List S.Mastership → List Bool → List Controller
pack_controllers events learned says = table most_nodes (controller_row events learned says)

unfoldable pub pack_streams : S.Board → List Stream
pack_streams w = table most_nodes (stream_row w)

abbrev pub id_row : List ℕ → ℕ → ElectionId
id_row ids i = record { 0 = get_or ids i 0 }

abbrev pub term_row : List ℕ → ℕ → Term
term_row terms i = record { 0 = get_or terms i 0 }

abbrev pub pack_elected : S.Held → Elected
pack_elected h = record { master = h.master; largest = record { 0 = h.largest } }

unfoldable pub pack_claims : S.Board → Claims
pack_claims w = record {
  ids = table most_nodes (id_row w.held.ids);
  terms = table most_nodes (term_row w.terms);
  elected = pack_elected w.held;
  last = record { 0 = w.last };
}

unfoldable pub pack_core : S.Core → Core
pack_core c = record {
  service = pack_mastership c.desk.service;
  controllers = pack_controllers c.desk.events c.learned c.says;
  streams = pack_streams c.board;
  claims = pack_claims c.board;
}

abbrev pub no_write : Write
no_write = record { node = 0; term = record { 0 = 0 } }

unfoldable pub pack_history : List S.Write → History
pack_history l = record { items = padded no_write pack_write history_length l; len = length l }

unfoldable pub represent : S.State → State
represent s = record {
  count = s.count;
  running = s.running;
  core = pack_core s.core;
  history = pack_history s.history;
}
