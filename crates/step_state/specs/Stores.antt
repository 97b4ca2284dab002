-- What each class of steps writes, stored into the structs that it concerns.
use Rattle.std.specs.Prelude.{Bool, true, false, List, [], ◌∷◌, ℕ, Option, Some, None}
use Rattle.rules.specs.State as S
use Rattle.rules.specs.Parts.{Inbox, Sent, Received, Telling, Serving, tell_part}
use Rattle.any_list.specs.Arrays.{column}
use Rattle.step_parts.specs.Hold.{pack_mastership, pack_events, pack_requests, pack_responses, hold_write, pack_write}
use Rattle.step_parts.specs.declared.Write.{Write}
use Rattle.step_state.specs.Hold.{learned_at, says_at, hold_board, pack_stream, pack_controllers, pack_streams, pack_claims}
use Rattle.step_state.specs.declared.Controller.{Controller}
use Rattle.step_state.specs.declared.Stream.{Stream}
use Rattle.step_state.specs.declared.Claims.{Claims}
use Rattle.step_state.specs.declared.Board.{Board}

-- 1, 2: all event queues anew
abbrev pub store_events : List (List S.Mastership) → ℕ → List Controller → List Controller
store_events events count controllers = pack_controllers events (column learned_at count controllers) (column says_at count controllers)

-- 3
abbrev pub store_inbox : Inbox → Controller → Controller
store_inbox w r = record { events = pack_events w.events; learned = pack_mastership w.learned; says = r.says }

-- 4, 6
abbrev pub store_sent : Sent → Stream → Stream
store_sent w s = record { opened = s.opened; sent = record { 0 = w.sent }; requests = pack_requests w.requests; responses = s.responses }

-- 5, 7
abbrev pub store_says : Received → Controller → Controller
store_says w r = record { events = r.events; learned = r.learned; says = w.says }

abbrev pub store_received : Received → Stream → Stream
store_received w s = record { opened = s.opened; sent = s.sent; requests = s.requests; responses = pack_responses w.responses }

-- 8
abbrev pub store_open : Bool → Stream → Stream
store_open w s = record { opened = w; sent = s.sent; requests = s.requests; responses = s.responses }

-- the board, whole
abbrev pub pack_board : S.Board → Board
pack_board w = record { streams = pack_streams w; claims = pack_claims w }

abbrev pub closed_stream : Stream
closed_stream = pack_stream false 0 [] []

-- 12: no stream is open, the switch holds nothing of any node, and this is the last accepted term
abbrev pub bare : ℕ → S.Board
bare last = record {
  opens = [];
  sent = [];
  requests = [];
  responses = [];
  held = record { ids = []; master = 0; largest = 0 };
  terms = [];
  last = last;
}

-- 9, 10
unfoldable pub store_telling : ℕ → Telling → ℕ → List Stream → Claims → Board
store_telling n w count streams claims = pack_board ((tell_part n).put w (record { running = true; history = []; board = hold_board count streams claims })).board

-- 11
abbrev pub store_serving : Serving → Stream → Stream
store_serving w s = record { opened = s.opened; sent = s.sent; requests = pack_requests w.requests; responses = pack_responses w.responses }

-- The write that joins the history, if there is one: as the rules append it, and as the code hands it on.
abbrev pub hold_accepted : Option Write → List S.Write
hold_accepted None = []
hold_accepted (Some e) = hold_write e ∷ []

abbrev pub pack_accepted : List S.Write → Option Write
pack_accepted [] = None
pack_accepted (e ∷ l) = Some (pack_write e)
