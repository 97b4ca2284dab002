-- The state, by columns as in the published model: one list for each thing that every node has, node n at place n - 1.
-- Nodes are 1 to N, and 0 means no node. Queues and backups are plain lists, heads first.
use Rattle.std.specs.Prelude.{Bool, List, [], ℕ}

-- A mastership: what the service holds, what an event says, what a node learned.
pub record Mastership : Type 0 where
  pub term : ℕ
  pub master : ℕ
  pub backups : List ℕ

-- What a message on a stream is about.
pub data Message : Type 0 where
  update write : Message

pub data Status : Type 0 where
  ok already_exists not_found permission_denied : Status

pub record Request : Type 0 where
  pub message : Message
  pub id : ℕ
  pub term : ℕ

pub record Response : Type 0 where
  pub message : Message
  pub status : Status
  pub id : ℕ

-- An accepted write, as the history has it.
pub record Write : Type 0 where
  pub node : ℕ
  pub term : ℕ

-- The election service, and the event queue of each node.
pub record Desk : Type 0 where
  pub service : Mastership
  pub events : List (List Mastership)

-- The ids that the switch holds, and what they give: its master, 0 for none, and the largest id.
pub record Held : Type 0 where
  pub ids : List ℕ
  pub master : ℕ
  pub largest : ℕ

-- The switch's board. Of each stream: whether it is open, the term last sent on it, its requests and its responses.
-- Of each node, as the switch holds it: the election id, with what the ids give, and the term. And the last accepted term.
pub record Board : Type 0 where
  pub opens : List Bool
  pub sent : List ℕ
  pub requests : List (List Request)
  pub responses : List (List Response)
  pub held : Held
  pub terms : List ℕ
  pub last : ℕ

-- What one role owns. `says` are the flags "device says master".
pub record Core : Type 0 where
  pub desk : Desk
  pub learned : List Mastership
  pub says : List Bool
  pub board : Board

pub record State : Type 0 where
  pub count : ℕ
  pub running : Bool
  pub history : List Write
  pub core : Core

-- The mastership that nobody has learned yet.
abbrev pub blank : Mastership
blank = record { term = 0; master = 0; backups = [] }
