-- What a step changes of all that the argument looks at: what the service says, what waits for the nodes, their requests with their ids and terms on the
-- switch, the last accepted term and the history. Who the switch's master is does not occur. `Steps` shows that every step is such a change. Assumes nothing.
use Rattle.std.specs.Prelude.{◌≡◌, ◌≢◌, ◌⊎◌, ℕ, suc, ◌+◌, ◌-◌, ◌≤◌, ◌<◌, get_or}
use Rattle.std.proofs.Math.Option.{some}
use mathlib.Core.List.{List, [], ◌∷◌, ◌++◌, Memᴰ}
use Rattle.rules.specs.State.{Mastership, update, write, Request, State, blank}
use Rattle.rules.specs.Queues.{push}
use Rattle.rules.specs.Ids.{election_id}
use Rattle.rules.specs.Rules.{handle_write}
use Rattle.rules.specs.Step.{Event, kind_of}

-- Of a node: the mastership that it learned, its requests that wait, and its id and its term on the switch.
pub record Row : Type 0 where
  pub learned : Mastership
  pub requests : List Request
  pub id : ℕ
  pub term : ℕ

-- Node i + 1 has place i; past the end nothing waits and nothing is held.
abbrev pub row_at : State → ℕ → Row
row_at s i = let w = s.core.board in
    record { learned = get_or s.core.learned i blank; requests = get_or w.requests i []; id = get_or w.held.ids i 0; term = get_or w.terms i 0 }

abbrev pub events_at : State → ℕ → List Mastership
events_at s i = get_or s.core.desk.events i []

abbrev pub service_of : State → Mastership
service_of s = s.core.desk.service

abbrev pub last_of : State → ℕ
last_of s = s.core.board.last

-- The id of a term's master, among `count` nodes.
abbrev pub masters_id : ℕ → ℕ → ℕ
masters_id count t = election_id count t 0

-- 1, 2: a new term begins; or the term stays, and so does the master, if there is one then.
pub data Follows (m m' : Mastership) : Type 0 where
  begins : m'.term ≡ m.term + 1 → Follows m m'
  stays : m'.term ≡ m.term → (m'.master ≢ 0 → m'.master ≡ m.master) → Follows m m'

-- 4, 6: what the node of place i sends by the mastership m that it learned.
pub data Sent (count i : ℕ) (m : Mastership) : Request → Type 0 where
  -- No id is above that of its term's master.
  an-update : (id : ℕ) → id ≤ masters_id count m.term → Sent count i m (record { message = update; id = id; term = m.term })
  -- It comes from its term's master, and has that master's id.
  a_write : 0 < m.term → m.master ≡ suc i → Sent count i m (record { message = write; id = masters_id count m.term; term = m.term })

-- The row x at place i, where `events` waited for its node, and what becomes of it.
pub data RowChange (count i : ℕ) (events : List Mastership) (x : Row) : Row → Type 0 where
  same : RowChange count i events x x
  -- 3
  learns : (m : Mastership) → Memᴰ m events → x.learned.term ≤ m.term
      → RowChange count i events x (record { learned = m; requests = x.requests; id = x.id; term = x.term })
  -- 4, 6
  sends : (r : Request) → Sent count i x.learned r
      → RowChange count i events x (record { learned = x.learned; requests = push r x.requests; id = x.id; term = x.term })
  -- 9, 12, and 10 where another node holds the id
  shut : RowChange count i events x (record { learned = x.learned; requests = []; id = 0; term = 0 })
  -- 10
  takes : (r : Request) (q : List Request) → x.requests ≡ r ∷ q
      → RowChange count i events x (record { learned = x.learned; requests = q; id = r.id; term = r.term })
  -- 11
  handles : (r : Request) (q : List Request) → x.requests ≡ r ∷ q
      → RowChange count i events x (record { learned = x.learned; requests = q; id = x.id; term = x.term })

-- 11: the write at the head of a node's requests is accepted.
pub record Accepts (e : Event) (s t : State) : Type 0 where
  pub request : Request
  pub others : List Request
  pub kind : kind_of e.kind ≡ some handle_write
  pub node : 1 ≤ e.node
  pub head : (row_at s (e.node - 1)).requests ≡ request ∷ others
  pub is-write : request.message ≡ write
  -- It is judged by the node's id on the switch, and by its term there against the last accepted one.
  pub by-id : (row_at s (e.node - 1)).id ≡ request.id
  pub by-term : last_of s ≤ (row_at s (e.node - 1)).term
  -- It is recorded with its own term; the term that was tested is the last accepted one then.
  pub recorded : t.history ≡ s.history ++ (record { node = e.node; term = request.term } ∷ [])
  pub raised : last_of t ≡ (row_at s (e.node - 1)).term

pub data HistoryChange (e : Event) (s t : State) : Type 0 where
  -- Nothing is accepted: the last accepted term stays too, also when the switch shuts down.
  kept : t.history ≡ s.history → last_of t ≡ last_of s → HistoryChange e s t
  accepts : Accepts e s t → HistoryChange e s t

-- A step e from s to t.
pub record Change (e : Event) (s t : State) : Type 0 where
  pub service : Follows (service_of s) (service_of t)
  -- What waits for a node waited before, or is what the service now says.
  pub events : (i : ℕ) (m : Mastership) → Memᴰ m (events_at t i) → Memᴰ m (events_at s i) ⊎ (m ≡ service_of t)
  pub rows : (i : ℕ) → RowChange s.count i (events_at s i) (row_at s i) (row_at t i)
  pub history : HistoryChange e s t
