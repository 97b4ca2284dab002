-- What the functions that no other crate calls do to rows and arrays. Assumes nothing.
use Rattle.std.specs.Prelude.{Bool, List, ℕ, ◌-◌, set}
use Rattle.rules.specs.Election.{holding, taken}
use Rattle.rules.specs.Parts.{Told}
use Rattle.rules.specs.Rules.{asked}
use Rattle.step_parts.specs.declared.ElectionId.{ElectionId}
use Rattle.step_parts.specs.declared.Term.{Term}
use Rattle.step_state.specs.Hold.{hold_held, pack_elected}
use Rattle.step_state.specs.Stores.{closed_stream}
use Rattle.step_state.specs.declared.Stream.{Stream}
use Rattle.step_state.specs.declared.Claims.{Claims}
use Rattle.step_state.specs.declared.Board.{Board}

-- The switch holds this id and this term for node n, and whom the ids then elect.
abbrev pub with_claim : ℕ → ℕ → ElectionId → Term → Claims → Claims
with_claim count n id term c = record {
  ids = set c.ids (n - 1) id;
  terms = set c.terms (n - 1) term;
  elected = pack_elected (holding n id.0 (hold_held count c));
  last = c.last;
}

-- Node n's stream closed, with its id and term cleared.
abbrev pub cleared_at : ℕ → ℕ → List Stream → Claims → Board
cleared_at count n streams claims = record {
  streams = set streams (n - 1) closed_stream;
  claims = with_claim count n (record { 0 = 0 }) (record { 0 = 0 }) claims;
}

-- Another node holds the id of the update at the head of n's requests.
abbrev pub collides : ℕ → Told → Bool
collides n v = taken n (asked v).id v.held.ids
