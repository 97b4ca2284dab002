-- The switch's election: its master and the largest id, found from the ids and kept with them; the status of an update response; the telling.
use Rattle.std.specs.Prelude.{Bool, true, not, cond, ◌&&◌, ◌||◌, List, [], ◌∷◌, ℕ, suc, ◌+◌, ◌-◌, max, set, eqb}
use Rattle.rules.specs.State.{Status, ok, already_exists, not_found, Response, update, Held}
use Rattle.rules.specs.Queues.{push, room, has, before}

-- The largest id, 0 if there is none.
unfoldable pub largest : List ℕ → ℕ
largest [] = 0
largest (x ∷ l) = max x (largest l)

-- The switch's master: the node with the largest id above 0, or 0 for none.
unfoldable pub master_of : List ℕ → ℕ
master_of ids = cond (eqb (largest ids) 0) 0 (before (largest ids) ids + 1)

-- The ids with what they give.
unfoldable pub elected : List ℕ → Held
elected ids = record { ids = ids; master = master_of ids; largest = largest ids }

-- What is held once node n's id is this one, or 0. Every step that changes an id does it so.
unfoldable pub holding : ℕ → ℕ → Held → Held
holding n id h = elected (set h.ids (n - 1) id)

-- Another node than n holds the id.
unfoldable pub taken : ℕ → ℕ → List ℕ → Bool
taken n id ids = has id (set ids (n - 1) 0)

-- The status of an update response to node n, by the switch's master: without one, NotFound to all.
unfoldable pub status_for : ℕ → ℕ → Status
status_for master n = cond (eqb master 0) not_found (cond (eqb master n) ok already_exists)

-- What node n is told.
unfoldable pub news : Held → ℕ → Response
news h n = record { message = update; status = status_for h.master n; id = h.largest }

-- Every open stream is told what there is to say to its node, the first of the columns being node n's.
unfoldable pub tell_from : ℕ → (ℕ → Response) → List Bool → List (List Response) → List (List Response)
tell_from n say [] qs = qs
tell_from n say (o ∷ os) [] = []
tell_from n say (o ∷ os) (q ∷ qs) = cond o (push (say n) q) q ∷ tell_from (suc n) say os qs

-- Every open stream is told.
abbrev pub tell_all : (ℕ → Response) → List Bool → List (List Response) → List (List Response)
tell_all say opens responses = tell_from 1 say opens responses

-- Every open stream has room to be told.
unfoldable pub room_open : List Bool → List (List Response) → Bool
room_open [] qs = true
room_open (o ∷ os) [] = true
room_open (o ∷ os) (q ∷ qs) = (not o || room q) && room_open os qs
