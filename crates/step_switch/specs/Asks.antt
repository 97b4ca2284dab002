-- What the functions of this crate ask of their callers. Assumes nothing.
use Rattle.std.specs.Prelude.{◌≡◌, true, List, ℕ, ◌≤◌}
use Rattle.rules.specs.Codes.{step_done}
use Rattle.rules.specs.Election.{elected}
use Rattle.rules.specs.Part.{Rule, decide}
use Rattle.rules.specs.Parts.{Told, Telling}
use Rattle.rules.specs.Rules.{handle_update_rule, update_room}
use Rattle.any_list.specs.Arrays.{column}
use Rattle.step_state.specs.Hold.{id_at, hold_held}
use Rattle.step_state.specs.Order.{OrderedBoard}
use Rattle.step_state.specs.Reads.{answer_of, told_of}
use Rattle.step_state.specs.declared.Stream.{Stream}
use Rattle.step_state.specs.declared.Claims.{Claims}
use Rattle.step_streams.specs.Asks.{IsNode}

-- A node, and what the switch holds: what is kept with the ids is what they give.
pub record AtClaims (count node : ℕ) (claims : Claims) : Type 0 where
  pub within : IsNode count node
  pub kept : hold_held count claims ≡ elected (column id_at count claims.ids)

-- A node, and all streams in order.
pub record AtBoard (count node : ℕ) (streams : List Stream) (claims : Claims) : Type 0 where
  pub board : OrderedBoard count streams claims
  pub from : 1 ≤ node
  pub upto : node ≤ count

-- The same, where the rule answers that the step is done.
pub record Tells (rule : ℕ → Rule Told Telling) (count node : ℕ) (streams : List Stream) (claims : Claims) : Type 0 where
  pub at : AtBoard count node streams claims
  pub goes : answer_of (decide (rule node) (told_of count node true streams claims)) ≡ step_done

-- An update that may be handled is at the head of the node's requests.
pub record UpdateAt (count node : ℕ) (streams : List Stream) (claims : Claims) : Type 0 where
  pub at : AtBoard count node streams claims
  pub allowed : (handle_update_rule node).allowed (told_of count node true streams claims) ≡ true

-- The same, with room for what taking it tells.
pub record CanUpdate (count node : ℕ) (streams : List Stream) (claims : Claims) : Type 0 where
  pub head : UpdateAt count node streams claims
  pub roomy : update_room node (told_of count node true streams claims) ≡ true
