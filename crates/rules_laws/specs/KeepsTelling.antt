-- Closing a stream and handling an update keep the board in range: the telling of all, the closed stream, the updated one. Assumes nothing.
use Rattle.std.specs.Prelude.{◌≡◌, ◌≢◌, Bool, not, cond, ◌||◌, length, get_or, set, eqb}
use Rattle.std.proofs.Math.Path.{refl, ap}
use Rattle.std.proofs.Common.{sym, ◌∙◌, true≢false, arith, length-set, get_or-set_same, get_or-set_other}
use Rattle.std.proofs.Math.Bool.{true, false}
use mathlib.Core.List.{List, [], ◌∷◌}
use Prim.Native.Nat.{ℕ, zero, suc, ◌-◌, ◌≤◌, ◌<◌}
use Rattle.std.proofs.Math.Decide.{ℕ_discrete}
use Rattle.std.proofs.Math.Seq.{set-get_or}
use Rattle.std.proofs.Math.Dec.{T}
use Rattle.rules.specs.Limits.{top_id}
use Rattle.rules.specs.State.{Response, ok, already_exists, not_found, Held, Board, update}
use Rattle.rules.specs.Queues.{push, empty, room}
use Rattle.rules.specs.Parts.{Told, tell_part}
use Rattle.rules.specs.Election.{largest, elected, holding, taken, status_for, news, tell_from, tell_all, room_open}
use Rattle.rules.specs.Rules.{is_update, no_request, held_left, opens_left, responses_left, changes, close_room, closed, close_rule, asked, held_with, update_room, updated, handle_update_rule}
use Rattle.rules_laws.specs.InRange.{Absent, QueueFits, RequestFits, AnswerFits, ResponseFits, HeldFits, BoardFits}
use Rattle.rules_laws.specs.Tests.{◌&◌, as-is, is-yes, is-absent}
use Rattle.rules_laws.specs.Lists.{all_set, at_set, queue-none, queue-rest, queue-first, queue-push, ids_set}
use Rattle.rules_laws.specs.Answered.{Passes}
use Rattle.rules_laws.specs.Boards.{ResponsesFit, own-queue, responses-fit, Anew}

-- ---- what is told

largest-le : (top : ℕ) (ids : List ℕ) → ((i : ℕ) → get_or ids i 0 ≤ top) → largest ids ≤ top
unfolding largest
largest-le top [] h = omega arith
largest-le top (x ∷ ids) h = let y : x ≤ top = h 0 in let z = largest-le top ids (λ i. h (suc i)) in omega arith

news-fits : (h : Held) → h.largest ≤ top_id → (n : ℕ) → ResponseFits (news h n)
unfolding news status_for
news-fits h k n = go (eqb h.master 0) (eqb h.master n)
  where
    go : (a b : Bool) → AnswerFits update (cond a not_found (cond b ok already_exists)) h.largest
    go true b = k
    go false true = k
    go false false = k

-- ---- every open stream is told

module _ (say : ℕ → Response) (fit : (n : ℕ) → ResponseFits (say n)) where
  told-size : (n : ℕ) (os : List Bool) (qs : List (List Response)) → length (tell_from n say os qs) ≡ length qs
  unfolding tell_from
  told-size n [] qs = refl
  told-size n (o ∷ os) [] = refl
  told-size n (o ∷ os) (q ∷ qs) = ap suc (told-size (suc n) os qs)

  told-queues : (n : ℕ) (os : List Bool) (qs : List (List Response)) → T (room_open os qs) → ((i : ℕ) → QueueFits ResponseFits (get_or qs i []))
      → (i : ℕ) → QueueFits ResponseFits (get_or (tell_from n say os qs) i [])
  unfolding tell_from room_open
  told-queues n [] qs r h i = h i
  told-queues n (o ∷ os) [] r h i = h i
  told-queues n (o ∷ os) (q ∷ qs) r h i = at i ((as-is (not o || room q) & as-is (room_open os qs)).to r) (told-queues (suc n) os qs)
    where
      one : (b : Bool) → T (not b || room q) → QueueFits ResponseFits (cond b (push (say n) q) q)
      one true t = queue-push ResponseFits (say n) q (fit n) t (h 0)
      one false t = h 0

      at : (i : ℕ) → T (not o || room q) × T (room_open os qs)
          → (T (room_open os qs) → ((i : ℕ) → QueueFits ResponseFits (get_or qs i [])) → (i : ℕ) → QueueFits ResponseFits (get_or (tell_from (suc n) say os qs) i []))
          → QueueFits ResponseFits (get_or (cond o (push (say n) q) q ∷ tell_from (suc n) say os qs) i [])
      at zero t more = one o t.0
      at (suc i) t more = more t.1 (λ i. h (suc i)) i

  told-closed : (n : ℕ) (os : List Bool) (qs : List (List Response)) (i : ℕ) → get_or os i false ≡ false → get_or (tell_from n say os qs) i [] ≡ get_or qs i []
  unfolding tell_from
  told-closed n [] qs i h = refl
  told-closed n (o ∷ os) [] i h = refl
  told-closed n (o ∷ os) (q ∷ qs) zero h = rw h
  told-closed n (o ∷ os) (q ∷ qs) (suc i) h = told-closed (suc n) os qs i h

  told-fits : (count : ℕ) (os : List Bool) (qs : List (List Response)) → T (room_open os qs) → ResponsesFit count os qs → ResponsesFit count os (tell_all say os qs)
  told-fits count os qs r h = record {
    size = told-size 1 os qs ∙ h.size;
    queues = told-queues 1 os qs r h.queues;
    closed = λ i e. told-closed 1 os qs i e ∙ h.closed i e;
  }

-- ---- 9 Close, 10 Handle update

-- What stream n's closing and updating see of a board.
abbrev pub seen : Bool → Board → ℕ → Told
seen running w n = (tell_part n).get (record { running = running; history = []; board = w })

module _ {count : ℕ} {running : Bool} {w : Board} (h : BoardFits count running w) (n : ℕ) (place : n - 1 < count) where
  abbrev v : Told
  v = seen running w n

  -- Node n's id is another, which no other node holds.
  holding-fits : (id : ℕ) → (id ≢ 0 → Absent id (set w.held.ids (n - 1) 0)) → HeldFits (holding n id w.held)
  unfolding holding elected
  holding-fits id f = record { distinct = ids_set w.held.ids (n - 1) id f h.held.distinct; made = refl }

  holding-news : (id : ℕ) → id ≤ top_id → (m : ℕ) → ResponseFits (news (holding n id w.held) m)
  unfolding holding elected
  holding-news id k = news-fits (elected (set w.held.ids (n - 1) id)) (largest-le top_id (set w.held.ids (n - 1) id)
      (λ i. at_set (λ x. x ≤ top_id) w.held.ids (n - 1) i id 0 k (h.streams i).id-high))

  -- Without stream n.
  left-fits : ResponsesFit count (set w.opens (n - 1) false) (set w.responses (n - 1) [])
  left-fits = record {
    size = length-set w.responses (n - 1) [] ∙ h.responses-size;
    queues = λ i. at_set (QueueFits ResponseFits) w.responses (n - 1) i [] [] (queue-none ResponseFits) (h.streams i).responses-fit;
    closed = λ i. others i (ℕ_discrete i (n - 1));
  }
    where
      others : (i : ℕ) → Dec (i ≡ n - 1) → get_or (set w.opens (n - 1) false) i false ≡ false → get_or (set w.responses (n - 1) []) i [] ≡ []
      others i (yes z) e = rw z (get_or-set_same w.responses (n - 1) [] [] (rw h.responses-size place))
      others i (no z) e = get_or-set_other w.responses (n - 1) i [] [] z ∙ ((h.streams i).shut (sym (get_or-set_other w.opens (n - 1) i false false z) ∙ e)).no-responses

  pub closed-fits : T (close_room n v) → Anew count running w n (closed n v) (held_left n v)
  unfolding close_room closed held_left holding elected opens_left responses_left
  closed-fits r = record {
    responses = go (changes w.held (held_left n v)) r;
    sent = omega arith;
    requests = queue-none RequestFits;
    id = omega arith;
    term = omega arith;
    shut = λ e. record { no-sent = refl; no-requests = refl; no-responses = refl; no-id = refl; no-term = refl };
    ids = refl;
    held = holding-fits 0 (λ z. absurd (z refl));
    stopped = λ e. all_set (λ o. o ≡ false) w.opens (n - 1) false refl (h.stopped e);
  }
    where
      go : (b : Bool) → T (not b || room_open (opens_left n v) (responses_left n v))
          → ResponsesFit count (opens_left n v) (cond b (tell_all (news (held_left n v)) (opens_left n v) (responses_left n v)) (responses_left n v))
      go true t = told-fits (news (held_left n v)) (holding-news 0 (omega arith)) count (opens_left n v) (responses_left n v) t left-fits
      go false t = left-fits

  pub close-fits : Passes (close_rule n) v → Anew count running w n ((close_rule n).effect v) (holding n ((close_rule n).effect v).id w.held)
  unfolding close_rule closed held_left
  close-fits p = closed-fits p.queues

  updated-fits : running ≡ true → get_or w.opens (n - 1) false ≡ true → RequestFits (asked v) → T (not (taken n (asked v).id w.held.ids)) → T (update_room n v)
      → Anew count running w n (updated n v) (held_with n v)
  unfolding taken update_room updated held_with holding elected
  updated-fits r o k free room-left = record {
    responses = rw (ap (set w.opens (n - 1)) (sym o) ∙ set-get_or w.opens (n - 1) false) (go (changes w.held (held_with n v)) room-left);
    sent = (h.streams (n - 1)).sent-high;
    requests = queue-rest RequestFits v.requests (h.streams (n - 1)).requests-fit;
    id = k.id.upper;
    term = k.term.upper;
    shut = λ e. absurd (true≢false e);
    ids = refl;
    held = holding-fits (asked v).id (λ z. (is-absent (asked v).id (set w.held.ids (n - 1) 0)).to free);
    stopped = λ e. absurd (true≢false (sym r ∙ e));
  }
    where
      told : (m : ℕ) → ResponseFits (news (held_with n v) m)
      told = holding-news (asked v).id k.id.upper

      go : (b : Bool) → T (cond b (room_open w.opens w.responses) (room (get_or w.responses (n - 1) [])))
          → ResponsesFit count w.opens
          (cond b (tell_all (news (held_with n v)) w.opens w.responses) (set w.responses (n - 1) (push (news (held_with n v) n) (get_or w.responses (n - 1) []))))
      go true t = told-fits (news (held_with n v)) told count w.opens w.responses t (responses-fit h)
      go false t = own-queue (n - 1) o
          (queue-push ResponseFits _ (get_or w.responses (n - 1) []) (told n) t (h.streams (n - 1)).responses-fit) (responses-fit h)

  pub handle-update-fits : Passes (handle_update_rule n) v → Anew count running w n ((handle_update_rule n).effect v) (holding n ((handle_update_rule n).effect v).id w.held)
  unfolding handle_update_rule closed updated held_left held_with
  handle-update-fits p = go (taken n (asked v).id w.held.ids) refl p.queues
    where
      go : (b : Bool) → taken n (asked v).id w.held.ids ≡ b → T (cond b (close_room n v) (update_room n v)) → Anew count running w n (cond b (closed n v) (updated n v)) (holding n (cond b (closed n v) (updated n v)).id w.held)
      go true e q = closed-fits q
      go false e q =
          let a = (is-yes running & is-yes (get_or w.opens (n - 1) false) & as-is (not (empty v.requests)) & as-is (is_update (asked v).message)).to p.allowed in
          updated-fits a.0.0.0 a.0.0.1 (queue-first RequestFits no_request v.requests a.0.1 (h.streams (n - 1)).requests-fit) (rw e tt) q
