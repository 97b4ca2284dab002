-- The master and the largest id that a state in range keeps are those that a search of its ids finds: what 9, 10 and 11
-- decide and tell is what they did when they searched. Assumes nothing.
use Rattle.std.specs.Prelude.{◌≡◌, Bool, not, cond, ◌&&◌, ◌||◌, List, [], ℕ, ◌-◌, get_or, set, leb, eqb}
use Rattle.std.proofs.Common.{sym, ◌∙◌}
use Rattle.std.proofs.Math.Path.{ap}
use Rattle.rules.specs.State.{update, Response, Held, State}
use Rattle.rules.specs.Queues.{push, first, room}
use Rattle.rules.specs.Election.{largest, master_of, elected, holding, status_for, news, tell_all, room_open}
use Rattle.rules.specs.Rules.{no_request, held_left, opens_left, responses_left, changes, close_room, closed, asked, held_with, update_room, updated, accepts, close, handle_update, handle_write}
use Rattle.rules_laws.specs.InRange.{HeldFits, InRange}
use Rattle.rules_laws.specs.Answered.{sees}

-- What is kept is no choice: two that hold the same ids are the same.
pub kept_same : (h h' : Held) → HeldFits h → HeldFits h' → h.ids ≡ h'.ids → h ≡ h'
kept_same h h' k k' e = k.made ∙ ap elected e ∙ sym k'.made

-- ---- by a search of the ids

-- The switch's master is another one after the ids have changed.
abbrev pub moves : List ℕ → List ℕ → Bool
moves ids ids' = not (eqb (master_of ids) (master_of ids'))

-- What node n is told.
abbrev pub said : List ℕ → ℕ → Response
said ids n = record { message = update; status = status_for (master_of ids) n; id = largest ids }

module _ (s : State) (r : InRange s) where
  abbrev pub ids_of : List ℕ
  ids_of = s.core.board.held.ids

  pub master-found : s.core.board.held.master ≡ master_of ids_of
  unfolding elected
  master-found = ap (λ h. h.master) r.core.board.held.made

  pub largest-found : s.core.board.held.largest ≡ largest ids_of
  unfolding elected
  largest-found = ap (λ h. h.largest) r.core.board.held.made

  -- 9, and 10 where another node holds the id: the room that is asked for, and what is told.
  pub close-room-found : (n : ℕ) → let v = sees close n s in
      close_room n v ≡ (not (moves ids_of (set ids_of (n - 1) 0)) || room_open (opens_left n v) (responses_left n v))
  unfolding close_room changes held_left holding elected
  close-room-found n = rw master-found

  pub close-tells-found : (n : ℕ) → let v = sees close n s in let left = set ids_of (n - 1) 0 in
      (closed n v).responses ≡ cond (moves ids_of left) (tell_all (said left) (opens_left n v) (responses_left n v)) (responses_left n v)
  unfolding closed changes held_left holding elected news
  close-tells-found n = rw master-found

  -- 10, where no other node holds the id.
  pub update-room-found : (n : ℕ) → let v = sees handle_update n s in
      update_room n v ≡ cond (moves ids_of (set ids_of (n - 1) (asked v).id)) (room_open v.opens v.responses) (room (get_or v.responses (n - 1) []))
  unfolding update_room changes held_with holding elected
  update-room-found n = rw master-found

  pub update-tells-found : (n : ℕ) → let v = sees handle_update n s in let with = set ids_of (n - 1) (asked v).id in
      (updated n v).responses ≡ cond (moves ids_of with) (tell_all (said with) v.opens v.responses)
      (set v.responses (n - 1) (push (said with n) (get_or v.responses (n - 1) [])))
  unfolding updated changes held_with holding elected news
  update-tells-found n = rw master-found

  -- 11
  pub accepts-found : (n : ℕ) → let v = sees handle_write n s in
      accepts n v ≡ (eqb (get_or ids_of (n - 1) 0) (first no_request v.requests).id && eqb (master_of ids_of) n && leb v.last v.term)
  unfolding accepts
  accepts-found n = rw master-found
