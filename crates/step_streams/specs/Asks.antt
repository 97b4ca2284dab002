-- What the functions of this crate ask of their callers. Assumes nothing.
use Rattle.std.specs.Prelude.{◌≡◌, false, List, ℕ, ◌≤◌, ◌<◌, get_or}
use Rattle.rules.specs.Limits.{most_nodes}
use Rattle.rules.specs.Queues.{empty}
use Rattle.step_parts.specs.Hold.{hold_requests}
use Rattle.step_state.specs.Order.{OrderedStream, past_stream}
use Rattle.step_state.specs.declared.Stream.{Stream}

-- One of the first `count` nodes.
pub record IsNode (count node : ℕ) : Type 0 where
  pub few : count ≤ most_nodes
  pub from : 1 ≤ node
  pub upto : node ≤ count

-- The rows in use are in order.
pub record OrderedRows (count : ℕ) (streams : List Stream) : Type 0 where
  pub few : count ≤ most_nodes
  pub rows : (i : ℕ) → i < count → OrderedStream (get_or streams i past_stream)

-- A stream in order, with a request.
pub record HasHead (stream : Stream) : Type 0 where
  pub ordered : OrderedStream stream
  pub some : empty (hold_requests stream.requests) ≡ false
