-- A body and a history are a state of the rules; what a step of the code leaves, said by the step of the rules.
use Rattle.std.specs.Prelude.{◌≡◌, List, [], ◌++◌, ℕ, T, Option, None, Result, Ok, Err}
use Rattle.rules.specs.Codes.{step_done}
use Rattle.rules.specs.State as S
use Rattle.rules.specs.Range.{in_range}
use Rattle.rules.specs.Part as R
use Rattle.step_parts.specs.Answers.{refusal_code}
use Rattle.step_parts.specs.declared.Refusal.{Refusal}
use Rattle.step_parts.specs.declared.Write.{Write}
use Rattle.step_state.specs.Hold.{hold_core, pack_core}
use Rattle.step_state.specs.Stores.{hold_accepted}
use Rattle.step_state.specs.declared.Body.{Body}

-- The state that a body holds, with a history beside it.
abbrev pub state_of : Body → List S.Write → S.State
state_of b history = record { count = b.count; running = b.running; history = history; core = hold_core b.count b.core }

-- A state written into a body; its history is left out.
abbrev pub body_of : S.State → Body
body_of s = record { count = s.count; running = s.running; core = pack_core s.core }

-- A body in range: what it holds is, and nothing else stands in it.
pub record Ready (b : Body) : Type 0 where
  pub fits : T (in_range (state_of b []))
  pub same : body_of (state_of b []) ≡ b

-- What a step leaves: the number of its answer, the body, and the write that it accepted, if it did.
pub record Left : Type 0 where
  pub code : ℕ
  pub body : Body
  pub accepted : Option Write

-- What a step of the code left, which answered so.
abbrev pub left_by : Body → Result (Option Write) Refusal → Left
left_by b (Ok o) = record { code = step_done; body = b; accepted = o }
left_by b (Err r) = record { code = refusal_code r; body = b; accepted = None }

-- It is what the rules' step leaves.
pub record Leaves (history : List S.Write) (t : R.Result ℕ S.State) (r : Left) : Type 0 where
  pub code : r.code ≡ t.answer
  pub body : r.body ≡ body_of t.state
  pub history-grows : t.state.history ≡ history ++ hold_accepted r.accepted
