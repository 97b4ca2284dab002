-- Rows in order: what the functions on rows and on arrays of rows rest on. Assumes nothing.
use Rattle.std.specs.Prelude.{◌≡◌, false, List, [], ℕ, ◌≤◌, ◌<◌, get_or}
use Rattle.rules.specs.Limits.{most_nodes}
use Rattle.rules.specs.Election.{elected}
use Rattle.any_list.specs.Arrays.{column}
use Rattle.step_parts.specs.Hold.{past_mastership}
use Rattle.step_parts.specs.Ordered.{OrderedMastership, OrderedEvents, OrderedRequests, OrderedResponses}
use Rattle.step_state.specs.Hold.{events_at, learned_at, says_at, id_at, hold_held, hold_board, pack_controllers, pack_streams, pack_claims}
use Rattle.step_state.specs.declared.Controller.{Controller}
use Rattle.step_state.specs.declared.Stream.{Stream}
use Rattle.step_state.specs.declared.Claims.{Claims}

pub record OrderedController (r : Controller) : Type 0 where
  pub events : OrderedEvents r.events
  pub learned : OrderedMastership r.learned

pub record OrderedStream (r : Stream) : Type 0 where
  pub requests : OrderedRequests r.requests
  pub responses : OrderedResponses r.responses

-- what the logic has for a read past the end of an array of rows
abbrev pub past_controller : Controller
past_controller = record { events = record { items = []; len = 0 }; learned = past_mastership; says = false }

abbrev pub past_stream : Stream
past_stream = record { opened = false; sent = record { 0 = 0 }; requests = record { items = []; len = 0 }; responses = record { items = []; len = 0 } }

-- The rows in use are in order, and the array is what they hold with blank rows behind it.
pub record OrderedControllers (count : ℕ) (controllers : List Controller) : Type 0 where
  pub few : count ≤ most_nodes
  pub rows : (i : ℕ) → i < count → OrderedController (get_or controllers i past_controller)
  pub same : pack_controllers (column events_at count controllers) (column learned_at count controllers) (column says_at count controllers) ≡ controllers

-- The same of the streams, and of what the switch holds: what is kept with the ids is what they give.
pub record OrderedBoard (count : ℕ) (streams : List Stream) (claims : Claims) : Type 0 where
  pub few : count ≤ most_nodes
  pub rows : (i : ℕ) → i < count → OrderedStream (get_or streams i past_stream)
  pub kept : hold_held count claims ≡ elected (column id_at count claims.ids)
  pub streams-same : pack_streams (hold_board count streams claims) ≡ streams
  pub claims-same : pack_claims (hold_board count streams claims) ≡ claims
