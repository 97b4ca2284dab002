-- In range: the test whose no is code 1.
use Rattle.std.specs.Prelude.{Bool, true, false, not, cond, ◌&&◌, ◌||◌, List, [], ◌∷◌, ℕ, zero, suc, length, get_or, leb, eqb}
use Rattle.rules.specs.Limits.{most_nodes, top_term, top_id, queue_length, history_length}
use Rattle.rules.specs.State.{Mastership, Message, update, write, Status, ok, already_exists, not_found, permission_denied, Request, Response, Write, Desk, Held, Board, Core, State}
use Rattle.rules.specs.Queues.{has, empty}
use Rattle.rules.specs.Election.{largest, master_of}

-- ---- of any list

unfoldable pub all : {A : Type 0} → (A → Bool) → List A → Bool
all p [] = true
all p (x ∷ l) = p x && all p l

-- p holds of every place below n.
unfoldable pub each : ℕ → (ℕ → Bool) → Bool
each zero p = true
each (suc n) p = p n && each n p

unfoldable pub within : ℕ → ℕ → ℕ → Bool
within low high x = leb low x && leb x high

unfoldable pub distinct : List ℕ → Bool
distinct [] = true
distinct (x ∷ l) = not (has x l) && distinct l

-- The numbers above 0 are distinct.
unfoldable pub distinct_ids : List ℕ → Bool
distinct_ids [] = true
distinct_ids (x ∷ l) = (eqb x 0 || not (has x l)) && distinct_ids l

unfoldable pub queue_fits : {A : Type 0} → (A → Bool) → List A → Bool
queue_fits p q = leb (length q) queue_length && all p q

-- ---- the service and the nodes

unfoldable pub backup_fits : ℕ → ℕ → ℕ → Bool
backup_fits count master b = within 1 count b && not (eqb b master)

-- A mastership with a master: a queued event, a learned one.
unfoldable pub mastership_fits : ℕ → Mastership → Bool
mastership_fits count m =
    within 1 top_term m.term && within 1 count m.master
    && all (backup_fits count m.master) m.backups && distinct m.backups

-- Without a master, a service has no backups.
unfoldable pub service_fits : ℕ → Mastership → Bool
service_fits count m = cond (eqb m.master 0) (leb m.term top_term && empty m.backups) (mastership_fits count m)

-- A learned mastership may be the blank one.
unfoldable pub learned_fits : ℕ → Mastership → Bool
learned_fits count m = cond (eqb m.term 0) (eqb m.master 0 && empty m.backups) (mastership_fits count m)

unfoldable pub desk_fits : ℕ → Desk → Bool
desk_fits count d = eqb (length d.events) count && service_fits count d.service && all (queue_fits (mastership_fits count)) d.events

-- ---- the streams and the switch

unfoldable pub request_fits : Request → Bool
request_fits r = within 1 top_id r.id && within 1 top_term r.term

-- Which responses may be queued: what they are about, their status, their id.
unfoldable pub answer_fits : Message → Status → ℕ → Bool
answer_fits update ok id = leb id top_id
answer_fits update already_exists id = leb id top_id
answer_fits update not_found id = leb id top_id
answer_fits update permission_denied id = false
answer_fits write ok id = eqb id 0
answer_fits write already_exists id = false
answer_fits write not_found id = false
answer_fits write permission_denied id = eqb id 0

unfoldable pub response_fits : Response → Bool
response_fits r = answer_fits r.message r.status r.id

-- One stream and what the switch holds of its node. A closed stream has nothing.
unfoldable pub stream_fits : Bool → ℕ → List Request → List Response → ℕ → ℕ → Bool
stream_fits is_open sent requests responses id term =
    leb sent top_term && queue_fits request_fits requests && queue_fits response_fits responses && leb id top_id && leb term top_term
    && (is_open || (eqb sent 0 && empty requests && empty responses && eqb id 0 && eqb term 0))

abbrev pub stream_fits_at : Board → ℕ → Bool
stream_fits_at b i =
    stream_fits (get_or b.opens i false) (get_or b.sent i 0) (get_or b.requests i []) (get_or b.responses i []) (get_or b.held.ids i 0) (get_or b.terms i 0)

-- The ids are distinct, and what is kept with them is what they give.
unfoldable pub held_fits : Held → Bool
held_fits h = distinct_ids h.ids && eqb h.master (master_of h.ids) && eqb h.largest (largest h.ids)

unfoldable pub board_fits : ℕ → Bool → Board → Bool
board_fits count running b =
    eqb (length b.opens) count && eqb (length b.sent) count && eqb (length b.requests) count && eqb (length b.responses) count
    && eqb (length b.held.ids) count && eqb (length b.terms) count
    && each count (stream_fits_at b)
    && held_fits b.held
    && (running || all not b.opens)
    && leb b.last top_term

-- ---- the state

unfoldable pub write_fits : ℕ → Write → Bool
write_fits count e = within 1 count e.node && within 1 top_term e.term

unfoldable pub core_fits : ℕ → Bool → Core → Bool
core_fits count running c =
    desk_fits count c.desk
    && eqb (length c.learned) count && all (learned_fits count) c.learned
    && eqb (length c.says) count
    && board_fits count running c.board

unfoldable pub in_range : State → Bool
in_range s =
    within 1 most_nodes s.count && core_fits s.count s.running s.core
    && leb (length s.history) history_length && all (write_fits s.count) s.history
