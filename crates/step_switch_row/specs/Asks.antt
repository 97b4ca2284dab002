-- What the functions of this crate ask of their callers. Assumes nothing.
use Rattle.std.specs.Prelude.{◌≡◌, true, ℕ, ◌≤◌}
use Rattle.rules.specs.Limits.{most_nodes}
use Rattle.rules.specs.Queues.{room}
use Rattle.rules.specs.Rules.{handle_write_rule}
use Rattle.step_parts.specs.Hold.{hold_responses}
use Rattle.step_state.specs.Order.{OrderedStream}
use Rattle.step_state.specs.Reads.{served_of}
use Rattle.step_state.specs.declared.Stream.{Stream}
use Rattle.step_state.specs.declared.Claims.{Claims}

-- A node, and its stream in order.
pub record AtStream (node : ℕ) (stream : Stream) : Type 0 where
  pub from : 1 ≤ node
  pub upto : node ≤ most_nodes
  pub ordered : OrderedStream stream

-- A write that may be handled is at the head of the stream's requests.
pub record WriteAt (node : ℕ) (stream : Stream) (claims : Claims) : Type 0 where
  pub at : AtStream node stream
  pub allowed : (handle_write_rule node).allowed (served_of node true stream claims 0) ≡ true

-- The same, with room for its answer.
pub record CanWrite (node : ℕ) (stream : Stream) (claims : Claims) : Type 0 where
  pub head : WriteAt node stream claims
  pub roomy : room (hold_responses stream.responses) ≡ true
