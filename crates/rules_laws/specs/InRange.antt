-- In range, as facts. Each is named after the test of the rules that it is the meaning of. Assumes nothing.
use Rattle.std.specs.Prelude.{◌≡◌, ◌≢◌, Bool, false, List, [], ◌∷◌, ℕ, ◌≤◌, length, get_or}
use Rattle.rules.specs.Limits.{most_nodes, top_term, top_id, queue_length, history_length}
use Rattle.rules.specs.State.{Mastership, Message, update, write, Status, ok, already_exists, not_found, permission_denied, Request, Response, Write, Desk, Held, Board, Core, State, blank}
use Rattle.rules.specs.Election.{elected}
use Rattle.rules_laws.specs.All.{All}

-- ---- of any list

-- x is not in the list.
abbrev pub Absent : ℕ → List ℕ → Type 0
Absent x l = All (λ y. y ≢ x) l

abbrev pub Distinct : List ℕ → Type 0
Distinct [] = Unit {0}
Distinct (x ∷ l) = Absent x l × Distinct l

-- The numbers above 0 are distinct.
abbrev pub DistinctIds : List ℕ → Type 0
DistinctIds [] = Unit {0}
DistinctIds (x ∷ l) = (x ≢ 0 → Absent x l) × DistinctIds l

pub record Within (low high x : ℕ) : Type 0 where
  pub lower : low ≤ x
  pub upper : x ≤ high

pub record QueueFits {A : Type 0} (P : A → Type 0) (q : List A) : Type 0 where
  pub short : length q ≤ queue_length
  pub items : All P q

-- ---- the service and the nodes

pub record BackupFits (count master b : ℕ) : Type 0 where
  pub node : Within 1 count b
  pub other : b ≢ master

-- A mastership with a master.
pub record MastershipFits (count : ℕ) (m : Mastership) : Type 0 where
  pub term : Within 1 top_term m.term
  pub master : Within 1 count m.master
  pub backups : All (BackupFits count m.master) m.backups
  pub distinct : Distinct m.backups

pub data ServiceFits (count : ℕ) (m : Mastership) : Type 0 where
  masterless : m.master ≡ 0 → m.backups ≡ [] → m.term ≤ top_term → ServiceFits count m
  ruled : MastershipFits count m → ServiceFits count m

pub data LearnedFits (count : ℕ) (m : Mastership) : Type 0 where
  unlearned : m ≡ blank → LearnedFits count m
  knows : MastershipFits count m → LearnedFits count m

pub record DeskFits (count : ℕ) (d : Desk) : Type 0 where
  pub size : length d.events ≡ count
  pub service : ServiceFits count d.service
  pub events : All (QueueFits (MastershipFits count)) d.events

-- ---- the streams and the switch

pub record RequestFits (r : Request) : Type 0 where
  pub id : Within 1 top_id r.id
  pub term : Within 1 top_term r.term

abbrev pub AnswerFits : Message → Status → ℕ → Type 0
AnswerFits update ok id = id ≤ top_id
AnswerFits update already_exists id = id ≤ top_id
AnswerFits update not_found id = id ≤ top_id
AnswerFits update permission_denied id = ⊥
AnswerFits write ok id = id ≡ 0
AnswerFits write already_exists id = ⊥
AnswerFits write not_found id = ⊥
AnswerFits write permission_denied id = id ≡ 0

abbrev pub ResponseFits : Response → Type 0
ResponseFits r = AnswerFits r.message r.status r.id

-- What a closed stream has.
pub record Shut (sent : ℕ) (requests : List Request) (responses : List Response) (id term : ℕ) : Type 0 where
  pub no-sent : sent ≡ 0
  pub no-requests : requests ≡ []
  pub no-responses : responses ≡ []
  pub no-id : id ≡ 0
  pub no-term : term ≡ 0

pub record StreamFits (is_open : Bool) (sent : ℕ) (requests : List Request) (responses : List Response) (id term : ℕ) : Type 0 where
  pub sent-high : sent ≤ top_term
  pub requests-fit : QueueFits RequestFits requests
  pub responses-fit : QueueFits ResponseFits responses
  pub id-high : id ≤ top_id
  pub term-high : term ≤ top_term
  pub shut : is_open ≡ false → Shut sent requests responses id term

-- The stream at place i of a board; past the end it is a closed one.
abbrev pub StreamAt : Board → ℕ → Type 0
StreamAt w i = StreamFits (get_or w.opens i false) (get_or w.sent i 0) (get_or w.requests i []) (get_or w.responses i []) (get_or w.held.ids i 0) (get_or w.terms i 0)

-- The ids are distinct, and what is kept with them is what they give.
pub record HeldFits (h : Held) : Type 0 where
  pub distinct : DistinctIds h.ids
  pub made : h ≡ elected h.ids

pub record BoardFits (count : ℕ) (running : Bool) (w : Board) : Type 0 where
  pub opens-size : length w.opens ≡ count
  pub sent-size : length w.sent ≡ count
  pub requests-size : length w.requests ≡ count
  pub responses-size : length w.responses ≡ count
  pub ids-size : length w.held.ids ≡ count
  pub terms-size : length w.terms ≡ count
  pub streams : (i : ℕ) → StreamAt w i
  pub held : HeldFits w.held
  pub stopped : running ≡ false → All (λ o. o ≡ false) w.opens
  pub last : w.last ≤ top_term

-- ---- the state

pub record WriteFits (count : ℕ) (e : Write) : Type 0 where
  pub node : Within 1 count e.node
  pub term : Within 1 top_term e.term

pub record CoreFits (count : ℕ) (running : Bool) (c : Core) : Type 0 where
  pub desk : DeskFits count c.desk
  pub learned-size : length c.learned ≡ count
  pub learned : All (LearnedFits count) c.learned
  pub says-size : length c.says ≡ count
  pub board : BoardFits count running c.board

pub record InRange (s : State) : Type 0 where
  pub count : Within 1 most_nodes s.count
  pub core : CoreFits s.count s.running s.core
  pub history-size : length s.history ≤ history_length
  pub history : All (WriteFits s.count) s.history
