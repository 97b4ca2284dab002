-- The tests of rows say what the rules' test of range and the blanks of the structs say. Assumes nothing.
use Rattle.std.specs.Prelude.{◌≡◌, refl, Bool, true, false, not, cond, ◌&&◌, ◌||◌, ℕ, ◌≤◌, T, leb, length, take, drop}
use Rattle.std.proofs.Math.Path.{sym, ap}
use Rattle.std.proofs.Common.{subst, eq-eqb, ne_eqb}
use mathlib.Core.List.{List, [], ◌∷◌, map}
use native.Mathlib.Omega.{arith}
use Rattle.std.proofs.Math.Decide.{ℕ_discrete}
use Rattle.std.proofs.Math.Dec.{eqb}
use Rattle.rules.specs.Limits.{top_term, top_id, queue_length}
use Rattle.rules.specs.State as S
use Rattle.rules.specs.Queues.{empty}
use Rattle.rules.specs.Range.{all, within, distinct, queue_fits, backup_fits, mastership_fits, learned_fits, request_fits, response_fits, stream_fits}
use Rattle.rules_laws.specs.Tests.{Is, is-map, ◌&◌, as-is, is-not, is_le, is_eq, is_within}
use Rattle.step_parts.specs.Hold.{hold_request, hold_response, past_mastership, no_request, no_response}
use Rattle.step_parts.specs.declared.Mastership.{Mastership}
use Rattle.step_parts.specs.declared.Request.{Request}
use Rattle.step_parts.specs.declared.Response.{Response}
use Rattle.step_state.specs.Hold.{events_at, learned_at, requests_at, responses_at}
use Rattle.step_state.specs.Tidy.{is_zero, tidy_mastership, blank_mastership, tidy_request, blank_request, tidy_response, blank_response, tidy_places, tidy_controller, blank_controller, tidy_stream, blank_stream}
use Rattle.step_state.specs.declared.Controller.{Controller}
use Rattle.step_state.specs.declared.Stream.{Stream}
use Rattle.step_bridge.specs.Sized.{SizedMastership, SizedController, SizedStream}
use Rattle.step_bridge.specs.Rows.{all_any}
use Rattle.step_range_queues.specs.Tests.{backups_test, event_test, blank_test, learned_test, events_test, requests_test, responses_test}
use Rattle.step_range.specs.Tests.{controller_test, blank_controller_test, shut_test, queues_test, stream_test}
use Rattle.step_range.specs.Places.{is-then}
use Rattle.step_range.specs.Masterships.{is-blank, is-learned}
use Rattle.step_range.specs.Queues.{list_fits, event, request, response, is-queue, is_none, none-fits, empty-held}

-- ---- nodes

nobody : (x : ℕ) → T (within 1 0 x) → ⊥
nobody x t = let w = (is_within 1 0 x).to t in let a : 1 ≤ x = w.lower in let b : x ≤ 0 = w.upper in omega arith

-- Among no nodes there is no event, and nothing can be learned.
no-event : (m : Mastership) → T (event_test 0 m) → ⊥
unfolding event_test
no-event m t = nobody m.master ((as-is (within 1 top_term m.term.0) & as-is (within 1 0 m.master) & as-is (backups_test 0 m)).to t).0.1

no-term : (m : Mastership) → T (blank_mastership m) → m.term.0 ≡ 0
unfolding blank_mastership
no-term m t = ((is_eq m.term.0 0 & as-is (is_zero m.master) & as-is (all is_zero m.backups) & as-is (is_zero m.len)).to t).0.0.0

is-unlearned : (m : Mastership) → SizedMastership m → Is (learned_test 0 m) (T (blank_mastership m))
unfolding learned_test
is-unlearned m k = go (ℕ_discrete m.term.0 0)
  where
    go : Dec (m.term.0 ≡ 0) → Is (cond (not (is_zero m.term.0)) (event_test 0 m) (blank_test m)) (T (blank_mastership m))
    go (yes e) = rw (eq-eqb m.term.0 0 e) (is-blank m k)
    go (no e) = rw (ne_eqb m.term.0 0 e) (record { to = λ t. absurd (no-event m t); from = λ t. absurd (e (no-term m t)) })

no-mastership : (q : List S.Mastership) → T (list_fits queue_length (mastership_fits 0) q) → q ≡ []
unfolding all mastership_fits
no-mastership [] t = refl
no-mastership (m ∷ q) t = let a = ((as-is (leb (length (m ∷ q)) queue_length) & (as-is (mastership_fits 0 m) & as-is (all (mastership_fits 0) q))).to t).1.0 in
    let b = as-is (within 1 top_term m.term) & as-is (within 1 0 m.master) & as-is (all (backup_fits 0 m.master) m.backups) & as-is (distinct m.backups) in
    absurd (nobody m.master (b.to a).0.0.1)

module _ (r : Controller) (k : SizedController r) where
  abbrev items : List Mastership
  items = r.events.items

  is-events : (n : ℕ) → Is (events_test n r.events) (T (tidy_places queue_length tidy_mastership blank_mastership items r.events.len) × T (queue_fits (mastership_fits n) (events_at r)))
  unfolding events_test queue_fits
  is-events n = is-queue (event n) queue_length items k.events k.items past_mastership r.events.len

  pub is-controller : (n : ℕ) → Is (controller_test n r) (T (tidy_controller r) × (T (queue_fits (mastership_fits n) (events_at r)) × T (learned_fits n (learned_at r))))
  unfolding controller_test tidy_controller
  is-controller n =
      let both = as-is (tidy_places queue_length tidy_mastership blank_mastership items r.events.len) & as-is (tidy_mastership r.learned) in
      is-map (λ t. (both.from (t.0.0, t.1.0), (t.0.1, t.1.1))) (λ h. let a = both.to h.0 in ((a.0, h.1.0), (a.1, h.1.1)))
      (is-events n & is-learned r.learned k.learned n)

  is-no-events : Is (events_test 0 r.events) (T (all blank_mastership items && is_zero r.events.len))
  unfolding events_test
  is-no-events =
      let q = is-queue (event 0) queue_length items k.events k.items past_mastership r.events.len in
      let n = is_none (event 0) queue_length items k.events k.items past_mastership r.events.len in
      is-map (λ t. n.from (t.0, no-mastership (events_at r) t.1))
      (λ t. let h = n.to t in (h.0, none-fits (event 0) queue_length items k.events k.items past_mastership r.events.len h.1))
      q

  pub is-no-controller : Is (blank_controller_test r) (T (blank_controller r))
  unfolding blank_controller_test controller_test blank_controller
  is-no-controller =
      let spec = as-is (all blank_mastership items) & as-is (is_zero r.events.len) & as-is (blank_mastership r.learned) & as-is (not r.says) in
      let queue = as-is (all blank_mastership items) & as-is (is_zero r.events.len) in
      is-map
      (λ t. let a = queue.to t.1.0 in spec.from ((a, t.1.1), t.0))
      (λ t. let h = spec.to t in (h.1, (queue.from h.0.0, h.0.1)))
      (as-is (not r.says) & (is-no-events & is-unlearned r.learned k.learned))

-- ---- streams

-- An open stream has a running switch, and a closed one has nothing.
is-opened : (o running x y : Bool) → x ≡ y → Is (cond o running x) (T (running || not o) × T (o || y))
is-opened true true x y e = record { to = λ t. (tt, tt); from = λ h. tt }
is-opened true false x y e = record { to = λ t. absurd t; from = λ h. h.0 }
is-opened false true x y e = record { to = λ t. (tt, subst T e t); from = λ h. subst T (sym e) h.1 }
is-opened false false x y e = record { to = λ t. (tt, subst T e t); from = λ h. subst T (sym e) h.1 }

is-closed : (o x : Bool) → Is (cond o false x) ((o ≡ false) × T x)
is-closed true x = record { to = λ t. absurd t; from = λ h. let z : ◌≡◌ {A = ℕ} 0 1 = cc in absurd (omega arith) }
is-closed false x = record { to = λ t. (refl, t); from = λ h. h.1 }

module _ (r : Stream) (k : SizedStream r) where
  abbrev asked : List Request
  asked = r.requests.items

  abbrev answered : List Response
  answered = r.responses.items

  abbrev tidy_requests : Bool
  tidy_requests = tidy_places queue_length tidy_request blank_request asked r.requests.len

  abbrev tidy_responses : Bool
  tidy_responses = tidy_places queue_length tidy_response blank_response answered r.responses.len

  abbrev Requests : Type 0
  Requests = T tidy_requests × T (queue_fits request_fits (requests_at r))

  abbrev Responses : Type 0
  Responses = T tidy_responses × T (queue_fits response_fits (responses_at r))

  is-queues : Is (queues_test r) (Requests × Responses)
  unfolding queues_test requests_test responses_test queue_fits
  is-queues =
      is-queue request queue_length asked k.requests (all_any asked) no_request r.requests.len
      & is-queue response queue_length answered k.responses (all_any answered) no_response r.responses.len

  is-tidy-stream : Is (tidy_stream r) (T tidy_requests × T tidy_responses)
  unfolding tidy_stream
  is-tidy-stream = as-is tidy_requests & as-is tidy_responses

  short : {B : Type 0} (tidy blank : B → Bool) (l : List B) (len : ℕ) → T (tidy_places queue_length tidy blank l len) → len ≤ queue_length
  unfolding tidy_places
  short tidy blank l len t = ((is_le len queue_length & as-is (all tidy (take len l)) & as-is (all blank (drop len l))).to t).0.0

  module _ (id term : ℕ) where
    abbrev shut : Bool
    shut = eqb r.sent.0 0 && empty (requests_at r) && empty (responses_at r) && eqb id 0 && eqb term 0

    shut-same : Requests × Responses → shut_test r id term ≡ shut
    unfolding shut_test
    shut-same q =
        let few = short tidy_request blank_request asked r.requests.len q.0.0 in
        let few' = short tidy_response blank_response answered r.responses.len q.1.0 in
        let a = empty-held request queue_length asked k.requests (all_any asked) no_request r.requests.len few in
        let b = empty-held response queue_length answered k.responses (all_any answered) no_response r.responses.len few' in
        λ i. eqb r.sent.0 0 && sym a i && sym b i && eqb id 0 && eqb term 0

    abbrev Numbers : Type 0
    Numbers = ((r.sent.0 ≤ top_term) × (id ≤ top_id)) × (term ≤ top_term)

    is-numbers : Is (leb r.sent.0 top_term && leb id top_id && leb term top_term) Numbers
    is-numbers = is_le r.sent.0 top_term & is_le id top_id & is_le term top_term

    pub is-stream : (running : Bool) → Is (stream_test running r id term)
        (T (tidy_stream r) × (T (stream_fits r.opened r.sent.0 (requests_at r) (responses_at r) id term) × T (running || not r.opened)))
    unfolding stream_test stream_fits
    is-stream running =
        let spec = is_le r.sent.0 top_term & as-is (queue_fits request_fits (requests_at r)) & as-is (queue_fits response_fits (responses_at r))
        & is_le id top_id & is_le term top_term & as-is (r.opened || shut) in
        is-map
        (λ t. let q = t.0.1 in let n = t.0.0 in (is-tidy-stream.from (q.0.0, q.1.0), (spec.from (((((n.0.0, q.0.1), q.1.1), n.0.1), n.1), t.1.1), t.1.0)))
        (λ h. let a = is-tidy-stream.to h.0 in let b = spec.to h.1.0 in let c = b.0.0.0 in
        (((((c.0.0, b.0.0.1), b.0.1)), ((a.0, c.0.1), (a.1, c.1))), (h.1.1, b.1)))
        (is-then (is-numbers & is-queues) (λ p. is-opened r.opened running (shut_test r id term) shut (shut-same p.1)))

    -- A row of a switch that does not run is blank.
    pub is-no-stream : Is (stream_test false r id term) ((T (blank_stream r) × T (is_zero id)) × T (is_zero term))
    unfolding stream_test shut_test blank_stream queue_fits
    is-no-stream =
        let none = is_none request queue_length asked k.requests (all_any asked) no_request r.requests.len in
        let none' = is_none response queue_length answered k.responses (all_any answered) no_response r.responses.len in
        let all-Asked = as-is (all blank_request asked) & is_eq r.requests.len 0 in
        let all-answered = as-is (all blank_response answered) & is_eq r.responses.len 0 in
        let spec = is-not r.opened & is_eq r.sent.0 0 & as-is (all blank_request asked) & is_eq r.requests.len 0
        & as-is (all blank_response answered) & is_eq r.responses.len 0 in
        let test = is_eq r.sent.0 0 & is_eq r.requests.len 0 & is_eq r.responses.len 0 & is_eq id 0 & is_eq term 0 in
        is-map
        (λ t. let q = t.0.1 in let s = test.to t.1.1 in
        let a = all-Asked.to (none.from (q.0.0, ap (λ (n : ℕ). map hold_request (take n asked)) s.0.0.0.1)) in
        let b = all-answered.to (none'.from (q.1.0, ap (λ (n : ℕ). map hold_response (take n answered)) s.0.0.1)) in
        ((spec.from (((((t.1.0, s.0.0.0.0), a.0), a.1), b.0), b.1), (is_eq id 0).from s.0.1), (is_eq term 0).from s.1))
        (λ h. let b = spec.to h.0.0 in let c = b.0.0.0 in
        let i : id ≡ 0 = (is_eq id 0).to h.0.1 in let e : term ≡ 0 = (is_eq term 0).to h.1 in let s : r.sent.0 ≡ 0 = c.0.1 in
        let x = none.to (all-Asked.from (c.1, b.0.0.1)) in
        let y = none'.to (all-answered.from (b.0.1, b.1)) in (
          (
            ((omega arith, omega arith), omega arith),
            (
              (x.0, none-fits request queue_length asked k.requests (all_any asked) no_request r.requests.len x.1),
              (y.0, none-fits response queue_length answered k.responses (all_any answered) no_response r.responses.len y.1),
            ),
          ),
          (c.0.0, test.from ((((s, b.0.0.1), b.1), i), e)),
        ))
        (is-numbers & is-queues & is-closed r.opened (shut_test r id term))
