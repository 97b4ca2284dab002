-- Rows and the state in range, as the code tests them: place by place, row by row. What each function of the code gives.
use Rattle.std.specs.Prelude.{Bool, not, cond, ◌&&◌, ◌||◌, List, ℕ, leb, ltb, eqb, get_or}
use Rattle.rules.specs.Limits.{most_nodes, top_term, top_id, history_length}
use Rattle.rules.specs.Queues.{before}
use Rattle.rules.specs.Election.{largest, master_of}
use Rattle.rules.specs.Range.{each, within, write_fits}
use Rattle.any_list.specs.Arrays.{column}
use Rattle.step_parts.specs.Hold.{hold_write}
use Rattle.step_state.specs.Hold.{id_at, no_write}
use Rattle.step_state.specs.Order.{past_controller, past_stream}
use Rattle.step_state.specs.Tidy.{is_zero, blank_write}
use Rattle.step_state.specs.declared.Controller.{Controller}
use Rattle.step_state.specs.declared.Stream.{Stream}
use Rattle.step_state.specs.declared.Claims.{Claims}
use Rattle.step_state.specs.declared.Core.{Core}
use Rattle.step_parts.specs.declared.Write.{Write}
use Rattle.step_state.specs.declared.History.{History}
use Rattle.step_state.specs.declared.State.{State}
use Rattle.step_range_queues.specs.Tests.{place, places_test, service_test, learned_test, events_test, requests_test, responses_test}

-- ---- rows

unfoldable pub controller_test : ℕ → Controller → Bool
controller_test count r = events_test count r.events && learned_test count r.learned

-- Among no nodes: there are no events, and nothing is learned.
unfoldable pub blank_controller_test : Controller → Bool
blank_controller_test r = not r.says && controller_test 0 r

unfoldable pub controllers_test : ℕ → List Controller → Bool
controllers_test count controllers = each most_nodes (place (controller_test count) blank_controller_test past_controller controllers count)

unfoldable pub shut_test : Stream → ℕ → ℕ → Bool
shut_test r id term = is_zero r.sent.0 && is_zero r.requests.len && is_zero r.responses.len && is_zero id && is_zero term

unfoldable pub queues_test : Stream → Bool
queues_test r = requests_test r.requests && responses_test r.responses

unfoldable pub stream_test : Bool → Stream → ℕ → ℕ → Bool
stream_test running r id term =
    leb r.sent.0 top_term && leb id top_id && leb term top_term && queues_test r && cond r.opened running (shut_test r id term)

-- A row above N is one of a switch that does not run: closed, and with nothing.
abbrev pub stream_place : ℕ → Bool → List Stream → Claims → ℕ → Bool
stream_place count running streams claims i =
    stream_test (ltb i count && running) (get_or streams i past_stream) (get_or claims.ids i (record { 0 = 0 })).0 (get_or claims.terms i (record { 0 = 0 })).0

unfoldable pub streams_test : ℕ → Bool → List Stream → Claims → Bool
streams_test count running streams claims = each most_nodes (stream_place count running streams claims)

-- An id above 0 at place i of the ids: i is its first place.
unfoldable pub id_test : ℕ → List ℕ → ℕ → Bool
id_test x ids i = is_zero x || eqb (before x ids) i

abbrev pub id_place : ℕ → Claims → ℕ → Bool
id_place count claims i = id_test (get_or claims.ids i (record { 0 = 0 })).0 (column id_at count claims.ids) i

unfoldable pub ids_test : ℕ → Claims → Bool
ids_test count claims = each count (id_place count claims)

-- What is kept with the ids is what they give, and they are distinct.
unfoldable pub held_test : ℕ → Claims → Bool
held_test count claims =
    let ids = column id_at count claims.ids in
    eqb claims.elected.master (master_of ids) && eqb claims.elected.largest.0 (largest ids) && ids_test count claims

-- ---- the state

abbrev pub write_test : ℕ → Write → Bool
write_test count e = write_fits count (hold_write e)

unfoldable pub history_test : ℕ → History → Bool
history_test count h = places_test history_length (write_test count) blank_write no_write h.items h.len

unfoldable pub core_test : ℕ → Bool → Core → Bool
core_test count running c =
    leb c.claims.last.0 top_term && service_test count c.service && controllers_test count c.controllers && streams_test count running c.streams c.claims
    && held_test count c.claims

unfoldable pub state_test : State → Bool
state_test s = within 1 most_nodes s.count && core_test s.count s.running s.core && history_test s.count s.history
