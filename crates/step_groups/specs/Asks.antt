-- What the functions of this crate ask of their callers.
use Rattle.std.specs.Prelude.{◌≡◌, ◌⊎◌, false, List, leb}
use Rattle.rules.specs.Codes.{step_done}
use Rattle.rules.specs.Limits.{queue_length}
use Rattle.rules.specs.Rules.{close_rule, handle_update_rule, join, leave, send_update, receive_update, send_write, close, handle_update, handle_write}
use Rattle.rules.specs.Step.{number_of}
use Rattle.step_parts.specs.declared.Mastership.{Mastership}
use Rattle.step_state.specs.Order.{OrderedController, OrderedStream, OrderedBoard}
use Rattle.step_state.specs.declared.Controller.{Controller}
use Rattle.step_state.specs.declared.Stream.{Stream}
use Rattle.step_state.specs.declared.Claims.{Claims}
use Rattle.step_service.specs.Asks.{Joins, Leaving}
use Rattle.step_nodes.specs.Waiting.{Waits}
use Rattle.step_streams.specs.Asks.{IsNode}
use Rattle.step_switch.specs.Asks.{AtBoard, Tells}
use Rattle.step_switch_row.specs.Asks.{CanWrite}
use Rattle.step_asks.specs.Groups.{existence}
use Rattle.step_asks.specs.Kinds.{RowKind, DeskKind, BoardKind}
use Rattle.step_asks.specs.declared.Ask.{Ask}

-- A node and its stream, both in order.
pub record RowAsks (a : Ask) (controller : Controller) (stream : Stream) : Type 0 where
  pub kind : RowKind a.kind
  pub within : IsNode a.count a.node
  pub ordered-controller : OrderedController controller
  pub ordered-stream : OrderedStream stream

-- The same, where the answer is 0, with what the answer shows.
pub record RowGoes (a : Ask) (controller : Controller) (stream : Stream) (claims : Claims) : Type 0 where
  pub asks : RowAsks a controller stream
  pub roomy : (a.kind ≡ number_of send_update) ⊎ (a.kind ≡ number_of send_write) → leb queue_length stream.requests.len ≡ false
  pub waits : a.kind ≡ number_of receive_update → Waits stream
  pub can_write : a.kind ≡ number_of handle_write → CanWrite a.node stream claims

-- A service that a node joins or leaves, where the answer is 0.
pub record DeskGoes (a : Ask) (service : Mastership) : Type 0 where
  pub kind : DeskKind a.kind
  pub joins : a.kind ≡ number_of join → Joins service
  pub leaving : a.kind ≡ number_of leave → Leaving service a.node

-- The streams and what the switch holds, in order; one of the nodes where the kind calls for one.
pub record BoardAsks (a : Ask) (streams : List Stream) (claims : Claims) : Type 0 where
  pub board : OrderedBoard a.count streams claims
  pub kind : existence a ≡ step_done → BoardKind a.kind
  pub within : existence a ≡ step_done → (a.kind ≡ number_of close) ⊎ (a.kind ≡ number_of handle_update) → AtBoard a.count a.node streams claims

-- The same, where the answer is 0.
pub record BoardGoes (a : Ask) (streams : List Stream) (claims : Claims) : Type 0 where
  pub board : OrderedBoard a.count streams claims
  pub kind : BoardKind a.kind
  pub closes : a.kind ≡ number_of close → Tells close_rule a.count a.node streams claims
  pub updates : a.kind ≡ number_of handle_update → Tells handle_update_rule a.count a.node streams claims
