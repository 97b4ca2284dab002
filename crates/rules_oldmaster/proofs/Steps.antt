-- Every step is a change of the kind that the argument speaks of. Assumes nothing.
use Rattle.std.specs.Prelude.{◌≡◌, ◌⊎◌, Bool, not, cond, get_or, set, eqb}
use Rattle.std.proofs.Math.Path.{refl}
use Rattle.std.proofs.Common.{◌∙◌, arith, get_or-set_other}
use Rattle.std.proofs.Math.Logic.{inl, ⊎_map}
use Rattle.std.proofs.Math.Bool.{true, false}
use Rattle.std.proofs.Math.Option.{some}
use mathlib.Core.List.Memᴰ
use mathlib.Core.List.{List, [], ◌∷◌, append-nil, map, Memᴰ}
use Prim.Native.Nat.{ℕ, zero, suc, ◌+◌, ◌-◌, ◌≤◌, ◌<◌}
use Rattle.std.proofs.Math.Decide.{ℕ_discrete}
use Rattle.std.proofs.Math.ListN.{get_or-map}
use Rattle.std.proofs.Math.Seq.{get_or-set_same, set-get_or}
use Rattle.std.proofs.Math.Dec.{T}
use Rattle.rules.specs.State.{Mastership, Message, update, write, Request, Desk, State, blank}
use Rattle.rules.specs.Queues.{push, first, rest, empty, remove}
use Rattle.rules.specs.Ids.{election_id, id_for}
use Rattle.rules.specs.Election.{elected, holding, taken}
use Rattle.rules.specs.Parts.{Served, service_part, send_part, on_device, tell_part}
use Rattle.rules.specs.Rules.{posted, unposted, vacant, joined, join_rule, hands_over, left, leave_rule, learn_rule, send_update_rule, send_write_rule, is_update, is_write, no_request, closed, close_rule, asked, updated, handle_update_rule, accepts, handle_write_rule, cleared, shutdown_rule, startup_rule, Kind, rule, join, leave, learns, send_update, receive_update, send_write, receive_write, connect, close, handle_update, handle_write, shutdown, startup}
use Rattle.rules.specs.Step.{Event, kind_of, step}
use Rattle.rules_laws.specs.InRange.{Within, InRange}
use Rattle.rules_laws.specs.Tests.{◌&◌, as-is, is_le, is_lt, is_eq, is_within}
use Rattle.rules_laws.specs.Answered.{Passes, sees, after, Reaches}
use Rattle.rules_laws.specs.RangeTest.{range-sound}
use Rattle.rules_laws.specs.Answers.{step_is}
use Rattle.rules_oldmaster.specs.Change as Change
use Rattle.rules_oldmaster.specs.Change.{Row, row_at, events_at, service_of, masters_id, Follows, begins, stays, Sent, RowChange, same, HistoryChange, kept, Change}

-- ---- queues

module _ {A : Type 0} where
  whole : (other : A) (q : List A) → T (not (empty q)) → q ≡ first other q ∷ rest q
  unfolding empty first rest
  whole other [] t = absurd t
  whole other (x ∷ q) t = refl

  head_in : (other : A) (q : List A) → T (not (empty q)) → Memᴰ (first other q) q
  unfolding empty first
  head_in other [] t = absurd t
  head_in other (x ∷ q) t = Memᴰ.head refl

  in_rest : (x : A) (q : List A) → Memᴰ x (rest q) → Memᴰ x q
  unfolding rest
  in_rest x [] k = k
  in_rest x (y ∷ q) k = Memᴰ.tail k

  -- What is in a queue after m was pushed into each was there, or is m.
  in-posted : (m x : A) (qs : List (List A)) (i : ℕ) → Memᴰ x (get_or (map (push m) qs) i []) → Memᴰ x (get_or qs i []) ⊎ (x ≡ m)
  unfolding push
  in-posted m x [] i k = inl k
  in-posted m x (q ∷ qs) zero k = ⊎_map (λ h. h) Memᴰ.eq_of_singleton (Memᴰ.append_cases q k)
  in-posted m x (q ∷ qs) (suc i) k = in-posted m x qs i k

-- ---- the service: 1, 2

module _ {e : Event} {s : State} where
  posts : (d : Desk) → Follows (service_of s) d.service
      → ((i : ℕ) (m : Mastership) → Memᴰ m (get_or d.events i []) → Memᴰ m (events_at s i) ⊎ (m ≡ d.service)) → Change e s (service_part.put d s)
  posts d f w = record { service = f; events = w; rows = λ i. same; history = kept refl refl }

  posted-change : (m : Mastership) → Follows (service_of s) m → Change e s (service_part.put (posted m s.core.desk) s)
  unfolding posted
  posted-change m f = posts _ f (λ i x k. in-posted m x s.core.desk.events i k)

  join-change : (n : ℕ) → Change e s (after join n s)
  unfolding join_rule joined
  join-change n = posted-change (joined n (service_of s)) (go (vacant (service_of s)))
    where
      go : (b : Bool) → let m = service_of s in
          Follows m (cond b (record { term = m.term + 1; master = n; backups = [] }) (record { term = m.term; master = m.master; backups = push n m.backups }))
      go true = begins refl
      go false = stays refl (λ z. refl)

  leave-change : (n : ℕ) → Change e s (after leave n s)
  unfolding leave_rule left unposted
  leave-change n = go (hands_over n (service_of s)) refl
    where
      gone : (b : Bool) → let m = service_of s in
          Follows m (cond b (record { term = m.term; master = 0; backups = [] }) (record { term = m.term; master = m.master; backups = remove n m.backups }))
      gone true = stays refl (λ z. absurd (z refl))
      gone false = stays refl (λ z. refl)

      go : (b : Bool) → hands_over n (service_of s) ≡ b → Change e s (after leave n s)
      go true h = rw h (posted-change _ (begins refl))
      go false h = rw h (posts _ (gone (eqb (service_of s).master n)) (λ i x k. inl k))

-- ---- what a node sends

-- The id rule: no id is above its term's master's.
asked_low : (count n : ℕ) (m : Mastership) → id_for count n m ≤ masters_id count m.term
unfolding id_for election_id
asked_low count n m = omega arith

-- ---- a row anew

-- The service says what it said, and nobody hears of it.
undesked : {e : Event} {s t : State} → t.core.desk ≡ s.core.desk → ((i : ℕ) → RowChange s.count i (events_at s i) (row_at s i) (row_at t i))
    → HistoryChange e s t → Change e s t
undesked d r h = record { service = rw d (stays refl (λ z. refl)); events = λ i m k. inl (rw d at k); rows = r; history = h }

-- The row at place i once node n's row is stored as y.
abbrev stored : State → ℕ → Row → ℕ → Row
stored s n y i = let w = s.core.board in record {
  learned = get_or (set s.core.learned (n - 1) y.learned) i blank;
  requests = get_or (set w.requests (n - 1) y.requests) i [];
  id = get_or (set w.held.ids (n - 1) y.id) i 0;
  term = get_or (set w.terms (n - 1) y.term) i 0;
}

module _ {s : State} (r : InRange s) {n : ℕ} (node : Within 1 s.count n) where
  abbrev Becomes : ℕ → Row → Type 0
  Becomes i y = RowChange s.count i (events_at s i) (row_at s i) y

  abbrev own : Row
  own = row_at s (n - 1)

  place : n - 1 < s.count
  place = let low = node.lower in let high = node.upper in omega arith

  -- Node n's row becomes y, and the others stay.
  anew : (y : Row) → Becomes (n - 1) y → (i : ℕ) → Becomes i (stored s n y i)
  anew y k i = go (ℕ_discrete i (n - 1))
    where
      go : Dec (i ≡ n - 1) → Becomes i (stored s n y i)
      go (yes e) = let w = s.core.board in let h = r.core.board in rw (
        e,
        get_or-set_same s.core.learned (n - 1) y.learned blank (rw r.core.learned-size place),
        get_or-set_same w.requests (n - 1) y.requests [] (rw h.requests-size place),
        get_or-set_same w.held.ids (n - 1) y.id 0 (rw h.ids-size place),
        get_or-set_same w.terms (n - 1) y.term 0 (rw h.terms-size place),
      ) k
      go (no z) = let w = s.core.board in rw (
        get_or-set_other s.core.learned (n - 1) i y.learned blank z,
        get_or-set_other w.requests (n - 1) i y.requests [] z,
        get_or-set_other w.held.ids (n - 1) i y.id 0 z,
        get_or-set_other w.terms (n - 1) i y.term 0 z,
      ) same

  -- ---- a node: 3, 4, 6

  learn-change : {e : Event} → Passes learn_rule (sees learns n s) → Change e s (after learns n s)
  unfolding learn_rule
  learn-change p =
      let q = events_at s (n - 1) in
      let a = (as-is (not (empty q)) & is_le own.learned.term (first blank q).term).to p.allowed in
      record {
        service = stays refl (λ z. refl);
        events = λ i m k. inl (waited i m (ℕ_discrete i (n - 1)) k);
        rows = λ i. simp set-get_or at (anew _ (Change.learns (first blank q) (head_in blank q a.0) a.1) i);
        history = kept refl refl;
      }
    where
      waited : (i : ℕ) (m : Mastership) → Dec (i ≡ n - 1) → Memᴰ m (get_or (set s.core.desk.events (n - 1) (rest (events_at s (n - 1)))) i []) → Memᴰ m (events_at s i)
      waited i m (yes e) k = rw e (in_rest m (events_at s (n - 1)) (rw (e, get_or-set_same s.core.desk.events (n - 1) (rest (events_at s (n - 1))) [] (rw r.core.desk.size place)) at k))
      waited i m (no z) k = rw (get_or-set_other s.core.desk.events (n - 1) i (rest (events_at s (n - 1))) [] z) at k

  sends-change : {e : Event} (t : ℕ) (x : Request) → Sent s.count (n - 1) own.learned x → Change e s ((send_part n).put (record { sent = t; requests = push x own.requests }) s)
  sends-change t x k = undesked refl (λ i. simp set-get_or at (anew _ (Change.sends x k) i)) (kept refl refl)

  send-update-change : {e : Event} → Change e s (after send_update n s)
  unfolding send_update_rule
  send-update-change = sends-change _ _ (Change.an-update _ (asked_low s.count n own.learned))

  send-write-change : {e : Event} → Passes (send_write_rule n) (sees send_write n s) → Change e s (after send_write n s)
  unfolding send_write_rule
  send-write-change p =
      let a = (as-is (sees send_write n s).is_open & is_lt 0 own.learned.term & is_eq own.learned.master n & as-is (sees send_write n s).says).to p.allowed in
      let low = node.lower in
      sends-change _ _ (Change.a_write a.0.0.1 (a.0.1 ∙ omega arith))

  -- ---- the switch: 9 to 11

  shut-change : {e : Event} → Change e s ((on_device (tell_part n)).put (closed n (sees close n s)) s)
  unfolding closed holding elected
  shut-change = undesked refl (λ i. simp set-get_or at (anew _ Change.shut i)) (kept refl refl)

  close-change : {e : Event} → Change e s (after close n s)
  unfolding close_rule
  close-change = shut-change

  taken-change : {e : Event} → T (not (empty own.requests)) → Change e s ((on_device (tell_part n)).put (updated n (sees handle_update n s)) s)
  unfolding updated holding elected
  taken-change t = undesked refl (λ i. simp set-get_or at (anew _ (Change.takes _ _ (whole no_request own.requests t)) i)) (kept refl refl)

  handle-update-change : {e : Event} → Passes (handle_update_rule n) (sees handle_update n s) → Change e s (after handle_update n s)
  unfolding handle_update_rule
  handle-update-change p =
      let v = sees handle_update n s in
      let a = (as-is v.running & as-is (get_or v.opens (n - 1) false) & as-is (not (empty v.requests)) & as-is (is_update (asked v).message)).to p.allowed in
      go (taken n (asked v).id v.held.ids) a.0.1
    where
      go : {e : Event} (b : Bool) → T (not (empty own.requests))
          → Change e s ((on_device (tell_part n)).put (cond b (closed n (sees handle_update n s)) (updated n (sees handle_update n s))) s)
      go true t = shut-change
      go false t = taken-change t

-- ---- 11 Handle write

about-write : (m : Message) → T (is_write m) → m ≡ write
unfolding is_write
about-write update t = absurd t
about-write write t = refl

-- What is used of the switch's test. Who its master is goes unread.
judged : (n : ℕ) (v : Served) → T (accepts n v) → (v.id ≡ (first no_request v.requests).id) × (v.last ≤ v.term)
unfolding accepts
judged n v t = let a = (is_eq v.id (first no_request v.requests).id & as-is _ & is_le v.last v.term).to t in (a.0.0, a.1)

-- A passing Handle write of the event's node, where the switch accepts or not.
handle-write-history : {e : Event} {s : State} → kind_of e.kind ≡ some handle_write → 1 ≤ e.node → let v = sees handle_write e.node s in
    v.requests ≡ first no_request v.requests ∷ rest v.requests → (first no_request v.requests).message ≡ write
    → (b : Bool) → accepts e.node v ≡ b → HistoryChange e s (after handle_write e.node s)
unfolding handle_write_rule
handle-write-history {e} {s} k low w m true h = let j = judged e.node (sees handle_write e.node s) (rw h tt) in
    rw h (Change.accepts (record { request = _; others = _; kind = k; node = low; head = w; is-write = m; by-id = j.0; by-term = j.1; recorded = refl; raised = refl }))
handle-write-history {e} {s} k low w m false h = rw h (kept (append-nil s.history) refl)

handle-write-change : {e : Event} {s : State} → InRange s → kind_of e.kind ≡ some handle_write → Within 1 s.count e.node
    → Passes (handle_write_rule e.node) (sees handle_write e.node s) → Change e s (after handle_write e.node s)
unfolding handle_write_rule
handle-write-change {e} {s} r k node p =
    let v = sees handle_write e.node s in
    let a = (as-is v.running & as-is v.is_open & as-is (not (empty v.requests)) & as-is (is_write (first no_request v.requests).message)).to p.allowed in
    let w = whole no_request v.requests a.0.1 in
    undesked refl (λ i. simp set-get_or at (anew r node _ (Change.handles _ _ w) i)) (handle-write-history k node.lower w (about-write _ a.1) (accepts e.node v) refl)

-- ---- 12 Shutdown

shutdown-change : {e : Event} {s : State} → Change e s (after shutdown e.node s)
unfolding shutdown_rule cleared elected
shutdown-change {s = s} = let w = s.core.board in
    undesked refl (λ i. rw (none {A = List Request} [] w.requests i, none 0 w.held.ids i, none 0 w.terms i) Change.shut) (kept refl refl)
  where
    none : {A : Type 0} (x : A) (l : List A) (i : ℕ) → get_or (map (λ y. x) l) i x ≡ x
    none x l i = get_or-map (λ y. x) l i x

-- ---- every rule, and every step

changes : (k : Kind) {e : Event} {s : State} → InRange s → Reaches e s k → Passes (rule k e.node) (sees k e.node s) → Change e s (after k e.node s)
unfolding startup_rule
changes join r c p = join-change _
changes leave r c p = leave-change _
changes learns r c p = learn-change r ((is_within _ _ _).to c.node) p
changes send_update r c p = send-update-change r ((is_within _ _ _).to c.node)
changes receive_update r c p = undesked refl (λ i. same) (kept refl refl)
changes send_write r c p = send-write-change r ((is_within _ _ _).to c.node) p
changes receive_write r c p = undesked refl (λ i. same) (kept refl refl)
changes connect r c p = undesked refl (λ i. same) (kept refl refl)
changes close r c p = close-change r ((is_within _ _ _).to c.node)
changes handle_update r c p = handle-update-change r ((is_within _ _ _).to c.node) p
changes handle_write r c p = handle-write-change r c.kind ((is_within _ _ _).to c.node) p
changes shutdown r c p = shutdown-change
changes startup r c p = undesked refl (λ i. same) (kept refl refl)

pub step-changes : (e : Event) (s : State) → Change e s (step e s).state
step-changes e s = step_is (λ x. Change e s x.state) e s (λ a h. undesked refl (λ i. same) (kept refl refl)) (λ k c p. changes k (range-sound s c.in-range) c p)
