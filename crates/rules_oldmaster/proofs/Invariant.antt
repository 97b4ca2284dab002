-- Every change keeps the law of all that is on its way from the service to the history. Assumes nothing.
use Rattle.std.specs.Prelude.{◌≡◌, refl, ◌≢◌, ◌⊎◌, ℕ, suc, ◌-◌, ◌≤◌, ◌<◌}
use Rattle.std.proofs.Common.{sym, ap, ◌∙◌, inl, inr, arith}
use mathlib.Core.List.{List, [], ◌∷◌, ◌++◌, Memᴰ}
use Rattle.rules.specs.State.{Mastership, update, write, Request, Write, State}
use Rattle.rules.specs.Queues.{push}
use Rattle.rules.specs.Ids.{election_id}
use Rattle.rules.specs.Step.{Event}
use Rattle.rules_laws.specs.All.{All}
use Rattle.rules_laws.specs.Lists.{all-each, all_append, all_push}
use Rattle.rules_oldmaster.specs.KeptOut.{NeverFalls}
use Rattle.rules_oldmaster.specs.Change.{Row, row_at, events_at, service_of, last_of, masters_id, Follows, begins, stays, Sent, an-update, a_write, RowChange, same, learns, sends, shut, takes, handles, Accepts, HistoryChange, kept, accepts, Change}
use Rattle.rules_oldmaster.specs.Invariant.{by, Climbs, RequestLaw, RowLaw, HistoryLaw, Lawful, Also}

-- ---- the id rule: a later term's master has a higher id

ids-rise : (count t u : ℕ) → masters_id count t ≤ masters_id count u → t ≤ u
unfolding election_id
ids-rise count t u h = omega arith

-- ---- terms that climb

climbs-from : (low low' : ℕ) (q : List Request) (high : ℕ) → low' ≤ low → Climbs low q high → Climbs low' q high
climbs-from low low' [] high h c = omega arith
climbs-from low low' (r ∷ q) high h c = (let u : low ≤ r.term = c.0 in omega arith, c.1)

climbs-to : (low : ℕ) (q : List Request) (high high' : ℕ) → high ≤ high' → Climbs low q high → Climbs low q high'
climbs-to low [] high high' h c = omega arith
climbs-to low (r ∷ q) high high' h c = (c.0, climbs-to r.term q high high' h c.1)

climbs-push : (low : ℕ) (q : List Request) (r : Request) (high : ℕ) → r.term ≡ high → Climbs low q high → Climbs low (push r q) high
unfolding push
climbs-push low [] r high e c = (omega arith, omega arith)
climbs-push low (x ∷ q) r high e c = (c.0, climbs-push x.term q r high e c.1)

never-falls-push : (w : Write) (l : List Write) → All (λ x. x.term ≤ w.term) l → NeverFalls l → NeverFalls (l ++ (w ∷ []))
never-falls-push w [] a r = (tt, tt)
never-falls-push w (x ∷ l) a r = (all_append (λ y. x.term ≤ y.term) l (w ∷ []) r.0 (a.0, tt), never-falls-push w l a.1 r.1)

-- ---- a row

no-write : {A : Type 0} → update ≡ write → A
no-write e = let z : ◌≡◌ {A = ℕ} 0 1 = cc in absurd (omega arith)

sent-term : {count i : ℕ} {m : Mastership} {r : Request} → Sent count i m r → r.term ≡ m.term
sent-term (an-update id low) = refl
sent-term (a_write some master) = refl

module _ {count : ℕ} {F : Write → Type 0} {i : ℕ} where
  -- The heart: a write with its node's id on the switch has its node's term there. The update that gave the id was sent before the write, so its term
  -- is not above; the id is its term's master's at most, and is the write's term's master's, so its term is not below.
  terms-agree : {x : Row} {r : Request} {q : List Request} → RowLaw count F i x → x.requests ≡ r ∷ q → r.message ≡ write → x.id ≡ r.id → x.term ≡ r.term
  terms-agree {x} {r} h e w k =
      let low : x.term ≤ r.term = (rw e at h.climbs).0 in
      let id : r.id ≡ masters_id count r.term = (rw e at h.requests).0.write-id w in
      let high : x.id ≤ masters_id count x.term = h.id in
      let up = ids-rise count r.term x.term (omega arith) in
      omega arith

  sent-lawful : {m : Mastership} {r : Request} → (0 < m.term → F (by m)) → Sent count i m r → RequestLaw count F (suc i) r
  sent-lawful f (an-update id low) = record { id = low; write-id = λ e. no-write e; write-named = λ e. no-write e }
  sent-lawful f (a_write some master) = record { id = omega arith; write-id = λ e. refl; write-named = λ e. rw (← master) (f some) }

  row-changed : {events : List Mastership} {x y : Row} → ((m : Mastership) → Memᴰ m events → F (by m)) → RowLaw count F i x → RowChange count i events x y → RowLaw count F i y
  row-changed f h same = h
  row-changed {x = x} f h (learns m k up) = record { learned = λ z. f m k; climbs = climbs-to x.term x.requests x.learned.term m.term up h.climbs; requests = h.requests; id = h.id }
  row-changed {x = x} f h (sends r k) = record {
    learned = h.learned;
    climbs = climbs-push x.term x.requests r x.learned.term (sent-term k) h.climbs;
    requests = all_push (RequestLaw count F (suc i)) r x.requests (sent-lawful h.learned k) h.requests;
    id = h.id;
  }
  row-changed {x = x} f h shut = record { learned = h.learned; climbs = omega arith; requests = tt; id = omega arith }
  row-changed f h (takes r q e) = let k = rw e at h.requests in record { learned = h.learned; climbs = (rw e at h.climbs).1; requests = k.1; id = k.0.id }
  row-changed {x = x} f h (handles r q e) = let c = rw e at h.climbs in
      record { learned = h.learned; climbs = climbs-from r.term x.term q x.learned.term c.0 c.1; requests = (rw e at h.requests).1; id = h.id }

-- ---- the history

below_more : {F : Write → Type 0} {last : ℕ} {h : List Write} → HistoryLaw F last h → (high : ℕ) → last ≤ high → All (λ w. w.term ≤ high) h
below_more {h = h} k high up = all-each (λ w a. omega arith) h k.below

module _ {F : Write → Type 0} {e : Event} {s t : State} (rows : (i : ℕ) → RowLaw s.count F i (row_at s i)) where
  module _ (a : Accepts e s t) where
    -- What is recorded is what was tested, and its node was named.
    pub accepted-term : (row_at s (e.node - 1)).term ≡ a.request.term
    accepted-term = terms-agree (rows (e.node - 1)) a.head a.is-write a.by-id

    pub accepted-named : F (record { node = e.node; term = a.request.term })
    accepted-named =
        let low = a.node in
        let node : suc (e.node - 1) ≡ e.node = omega arith in
        rw node at ((rw a.head at (rows (e.node - 1)).requests).0.write-named a.is-write)

  history-changed : HistoryLaw F (last_of s) s.history → HistoryChange e s t → HistoryLaw F (last_of t) t.history
  history-changed h (kept same-history same-last) = rw same-history (record { node = h.node; named = h.named; below = below_more h (last_of t) (omega arith); never-falls = h.never-falls })
  history-changed h (accepts a) =
      let agree = accepted-term a in
      let current = a.by-term in
      let raised = a.raised in
      rw a.recorded (record {
        node = all_append (λ w. 1 ≤ w.node) s.history _ h.node (a.node, tt);
        named = all_append F s.history _ h.named (accepted-named a, tt);
        below = all_append (λ w. w.term ≤ last_of t) s.history _ (below_more h (last_of t) (omega arith)) (omega arith, tt);
        never-falls = never-falls-push _ s.history (below_more h a.request.term (omega arith)) h.never-falls;
      })

-- ---- every change

module _ {F G : Write → Type 0} {m : Mastership} (g : Also F G m) where
  request-still : {count n : ℕ} (r : Request) → RequestLaw count F n r → RequestLaw count G n r
  request-still r k = record { id = k.id; write-id = k.write-id; write-named = λ w. g.before _ (k.write-named w) }

  row-still : {count i : ℕ} {x : Row} → RowLaw count F i x → RowLaw count G i x
  row-still {x = x} h = record {
    learned = λ z. g.before _ (h.learned z);
    climbs = h.climbs;
    requests = all-each request-still x.requests h.requests;
    id = h.id;
  }

  history-still : {last : ℕ} {h : List Write} → HistoryLaw F last h → HistoryLaw G last h
  history-still {h = h} k = record { node = k.node; named = all-each g.before h k.named; below = k.below; never-falls = k.never-falls }

pub lawful-step : {F G : Write → Type 0} {e : Event} {s t : State} → t.count ≡ s.count → F (by (service_of s)) → Also F G (service_of t) → Lawful F s → Change e s t → Lawful G t
lawful-step {F} {G} {e} {s} {t} n says g h c = record {
  once = λ x y p q. go x y (g.only x p) (g.only y q);
  bound = λ x p. high x (g.only x p);
  events = λ i m k. came i m (c.events i m k);
  rows = λ i. rw n (row-changed (λ m k. g.before _ (h.events i m k)) (row-still g (h.rows i)) (c.rows i));
  history = history-changed (λ i. row-still g (h.rows i)) (history-still g h.history) c.history;
}
  where
    -- An older name, for the term of what the service now says.
    with-new : Follows (service_of s) (service_of t) → (x : Write) → F x → x.node ≢ 0 → (service_of t).master ≢ 0 → x.term ≡ (service_of t).term → x.node ≡ (service_of t).master
    with-new (begins b) x p a z e = let u = h.bound x p in absurd (omega arith)
    with-new (stays b k) x p a z e = let d = k z in h.once x (by (service_of s)) p says a (λ o. z (d ∙ o)) (e ∙ b) ∙ sym d

    go : (x y : Write) → F x ⊎ (x ≡ by (service_of t)) → F y ⊎ (y ≡ by (service_of t)) → x.node ≢ 0 → y.node ≢ 0 → x.term ≡ y.term → x.node ≡ y.node
    go x y (inl p) (inl q) a b e = h.once x y p q a b e
    go x y (inl p) (inr q) a b e = rw q (with-new c.service x p a (rw q at b) (rw q at e))
    go x y (inr p) (inl q) a b e = rw p (sym (with-new c.service y q b (rw p at a) (rw p at (sym e))))
    go x y (inr p) (inr q) a b e = ap (λ w. w.node) (p ∙ sym q)

    grows : Follows (service_of s) (service_of t) → (service_of s).term ≤ (service_of t).term
    grows (begins b) = omega arith
    grows (stays b k) = omega arith

    high : (x : Write) → F x ⊎ (x ≡ by (service_of t)) → x.term ≤ (service_of t).term
    high x (inl p) = let u = h.bound x p in let v = grows c.service in omega arith
    high x (inr p) = rw p (omega arith)

    came : (i : ℕ) (m : Mastership) → Memᴰ m (events_at s i) ⊎ (m ≡ service_of t) → G (by m)
    came i m (inl k) = g.before _ (h.events i m k)
    came i m (inr e) = rw e g.now
