-- Why an old master can't get in, as a statement about every history that steps from a fresh state leave. `OldMaster` proves it. Assumes nothing.
use Rattle.std.specs.Prelude.{◌≡◌, ◌≢◌, ℕ, ◌-◌, ◌≤◌, get_or}
use Rattle.std.proofs.Math.Option.{some}
use mathlib.Core.List.{List, [], ◌∷◌, ◌++◌, Memᴰ}
use Rattle.rules.specs.State.{Mastership, Write, State}
use Rattle.rules.specs.Queues.{first}
use Rattle.rules.specs.Rules.{no_request, handle_write}
use Rattle.rules.specs.Step.{Event, kind_of, step, fresh}
use Rattle.rules.specs.Run.{run}
use Rattle.rules_laws.specs.All.{All}

-- ---- a list of steps, from fresh, and the moments of it

abbrev pub state_after : ℕ → List Event → State
state_after count es = (run step (fresh count) es).state

-- What the service then says.
abbrev pub service_after : ℕ → List Event → Mastership
service_after count es = (state_after count es).core.desk.service

abbrev pub history_after : ℕ → List Event → List Write
history_after count es = (state_after count es).history

-- The term that the first waiting request of node n carries.
abbrev pub own_term : State → ℕ → ℕ
own_term s n = (first no_request (get_or s.core.board.requests (n - 1) [])).term

-- The term that the switch holds of node n.
abbrev pub switch_term : State → ℕ → ℕ
switch_term s n = get_or s.core.board.terms (n - 1) 0

-- ---- what is said of a write in the history

-- There was a moment when the service's master was the write's node, and its term the write's term.
pub record Named (count : ℕ) (es : List Event) (w : Write) : Type 0 where
  pub before : List Event
  pub behind : List Event
  pub splits : before ++ behind ≡ es
  pub master : (service_after count before).master ≡ w.node
  pub term : (service_after count before).term ≡ w.term

-- At no moment was it another: whenever the service has a master in the write's term, that is the write's node.
abbrev pub NoOther : ℕ → List Event → Write → Type 0
NoOther count es w = (before behind : List Event) → before ++ behind ≡ es
    → (service_after count before).term ≡ w.term → (service_after count before).master ≢ 0 → (service_after count before).master ≡ w.node

-- The step that accepted the write, when the history was `old`: a Handle write of its node, which the service had named by then. The term that the
-- write carried, which is recorded, and the term that the switch held of the node, which is tested, are one.
pub record Accepted (count : ℕ) (es : List Event) (old : List Write) (w : Write) : Type 0 where
  pub before : List Event
  pub handled : Event
  pub behind : List Event
  pub splits : before ++ handled ∷ behind ≡ es
  pub kind : kind_of handled.kind ≡ some handle_write
  pub node : handled.node ≡ w.node
  pub named : Named count before w
  pub was : history_after count before ≡ old
  pub became : history_after count (before ++ (handled ∷ [])) ≡ old ++ (w ∷ [])
  pub recorded : own_term (state_after count before) w.node ≡ w.term
  pub tested : switch_term (state_after count before) w.node ≡ w.term

-- ---- the statement

-- No term is below one before it.
abbrev pub NeverFalls : List Write → Type 0
NeverFalls [] = Unit {0}
NeverFalls (x ∷ l) = All (λ y. x.term ≤ y.term) l × NeverFalls l

-- Of the writes h, after the steps es from a fresh state.
pub record KeptOut (count : ℕ) (es : List Event) (h : List Write) : Type 0 where
  -- No write has a lower term than one before it.
  pub never-falls : NeverFalls h
  -- The writes of one term are all by one node.
  pub one-node : (x y : Write) → Memᴰ x h → Memᴰ y h → x.term ≡ y.term → x.node ≡ y.node
  -- The service named that node master for the term, and never another.
  pub named : (w : Write) → Memᴰ w h → Named count es w
  pub no_other : (w : Write) → Memᴰ w h → NoOther count es w
  -- The term on record is the write's own, and is the one that the switch tested.
  pub accepted : (old new : List Write) (w : Write) → old ++ w ∷ new ≡ h → Accepted count es old w

-- For every list of steps, whatever is refused, closed or shut down in it. (Where the nodes are not 1 to 8, no step is done.)
abbrev pub OldMastersKeptOut : Type 0
OldMastersKeptOut = (count : ℕ) (es : List Event) → KeptOut count es (history_after count es)
