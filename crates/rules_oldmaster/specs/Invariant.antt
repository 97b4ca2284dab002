-- The law of all that is on its way from the service to the history. `proofs/Invariant` shows that every change keeps it. Assumes nothing.
use Rattle.std.specs.Prelude.{◌≡◌, ◌≢◌, ◌⊎◌, ℕ, suc, ◌≤◌, ◌<◌}
use mathlib.Core.List.{List, [], ◌∷◌, Memᴰ}
use Rattle.rules.specs.State.{Mastership, write, Request, Write, State}
use Rattle.rules_laws.specs.All.{All}
use Rattle.rules_oldmaster.specs.KeptOut.{NeverFalls}
use Rattle.rules_oldmaster.specs.Change.{Row, row_at, events_at, service_of, last_of, masters_id}

-- The master that a mastership names, as a write by it would have it.
abbrev pub by : Mastership → Write
by m = record { node = m.master; term = m.term }

-- The terms of the requests, oldest first, climb from one term to another.
abbrev pub Climbs : ℕ → List Request → ℕ → Type 0
Climbs low [] high = low ≤ high
Climbs low (r ∷ q) high = (low ≤ r.term) × Climbs r.term q high

-- F holds of a node and a term if the service has named the node master for the term.
module _ (count : ℕ) (F : Write → Type 0) where
  -- A request of node n that waits.
  pub record RequestLaw (n : ℕ) (r : Request) : Type 0 where
    pub id : r.id ≤ masters_id count r.term
    pub write-id : r.message ≡ write → r.id ≡ masters_id count r.term
    pub write-named : r.message ≡ write → F (record { node = n; term = r.term })

  -- The terms climb from the switch's, through the requests, to the one that the node has learned. No id is above that of its term's master.
  pub record RowLaw (i : ℕ) (x : Row) : Type 0 where
    pub learned : 0 < x.learned.term → F (by x.learned)
    pub climbs : Climbs x.term x.requests x.learned.term
    pub requests : All (RequestLaw (suc i)) x.requests
    pub id : x.id ≤ masters_id count x.term

pub record HistoryLaw (F : Write → Type 0) (last : ℕ) (h : List Write) : Type 0 where
  pub node : All (λ w. 1 ≤ w.node) h
  pub named : All F h
  pub below : All (λ w. w.term ≤ last) h
  pub never-falls : NeverFalls h

pub record Lawful (F : Write → Type 0) (s : State) : Type 0 where
  -- For a term one master is named, and none for a term yet to come.
  pub once : (x y : Write) → F x → F y → x.node ≢ 0 → y.node ≢ 0 → x.term ≡ y.term → x.node ≡ y.node
  pub bound : (x : Write) → F x → x.term ≤ (service_of s).term
  pub events : (i : ℕ) (m : Mastership) → Memᴰ m (events_at s i) → F (by m)
  pub rows : (i : ℕ) → RowLaw s.count F i (row_at s i)
  pub history : HistoryLaw F (last_of s) s.history

-- G holds of what the service has named before, and of what it now says.
pub record Also (F G : Write → Type 0) (m : Mastership) : Type 0 where
  pub before : (w : Write) → F w → G w
  pub now : G (by m)
  pub only : (w : Write) → G w → F w ⊎ (w ≡ by m)
