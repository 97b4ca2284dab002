-- The code's test is the rules' test of range, with blanks at unused places and rows. Assumes nothing.
use Rattle.std.specs.Prelude.{◌≡◌, Bool, true, false, ◌&&◌, ◌||◌, List, [], ◌∷◌, ℕ, ◌≤◌, ◌<◌, leb, eqb, length, get_or, take, drop}
use Rattle.std.proofs.Common.{sym, ◌∙◌, lt-ltb, le-ltb}
use Rattle.std.proofs.Math.Path.{subst}
use Rattle.std.proofs.Math.Bool.{not}
use native.Mathlib.Omega.{arith}
use Rattle.std.proofs.Math.Decide.{dec_lt}
use Rattle.std.proofs.Math.Dec.{T}
use Rattle.rules.specs.Limits.{most_nodes, top_term, history_length}
use Rattle.rules.specs.State as S
use Rattle.rules.specs.Queues.{before}
use Rattle.rules.specs.Election.{largest, master_of}
use Rattle.rules.specs.Range.{all, distinct_ids, queue_fits, mastership_fits, service_fits, learned_fits, desk_fits, stream_fits, held_fits, board_fits, write_fits, core_fits, in_range}
use Rattle.rules_laws.specs.All.{All}
use Rattle.rules_laws.specs.InRange.{Within}
use Rattle.rules_laws.specs.Tests.{Is, is-map, ◌&◌, as-is, is-unless, is_le, is_eq, is_ne, is_within, is_all, is-each, is-distinct-ids}
use Rattle.rules_laws.specs.Lists.{all-with, all-each}
use Rattle.any_list.specs.Arrays.{column}
use Rattle.any_list.specs.Columns.{column-at, length-column}
use Rattle.step_parts.specs.Hold.{hold_mastership}
use Rattle.step_state.specs.Hold.{events_at, learned_at, says_at, open_at, sent_at, requests_at, responses_at, id_at, term_at, no_write, hold_held, hold_board, hold_desk, hold_core, hold_history, hold}
use Rattle.step_state.specs.Order.{past_controller, past_stream}
use Rattle.step_state.specs.Tidy.{is_zero, tidy_mastership, tidy_controller, blank_controller, tidy_stream, blank_stream, blank_id, blank_term, tidy_core, tidy_history, state_fits}
use Rattle.step_state.specs.declared.Controller.{Controller}
use Rattle.step_state.specs.declared.Stream.{Stream}
use Rattle.step_state.specs.declared.Claims.{Claims}
use Rattle.step_state.specs.declared.State.{State}
use Rattle.step_bridge.specs.Sized.{SizedController, SizedStream, Sized}
use Rattle.step_bridge.specs.Rows.{all_any, all_take, taken_at, dropped-at}
use Rattle.step_range.specs.Tests.{controller_test, blank_controller_test, controllers_test, stream_place, streams_test, id_test, ids_test, held_test, history_test, core_test, state_test}
use Rattle.step_range.specs.Places.{agree, is-then, all-taken, all-dropped, all-mapped, all-unmapped, is-places}
use Rattle.step_range.specs.First.{ids-first, first-ids}
use Rattle.step_range.specs.Masterships.{is-service}
use Rattle.step_range.specs.Queues.{list_fits, accepted, is-queue}
use Rattle.step_range.specs.Rows.{is-controller, is-no-controller, is-stream, is-no-stream}

-- ---- the columns of the nodes

module _ (n : ℕ) (l : List Controller) (sized : length l ≡ most_nodes) (known : All SizedController l) where
  abbrev ControllerFits : Controller → Type 0
  ControllerFits r = T (tidy_controller r) × (T (queue_fits (mastership_fits n) (events_at r)) × T (learned_fits n (learned_at r)))

  abbrev queues_fit : Bool
  queues_fit = all (queue_fits (mastership_fits n)) (column events_at n l)

  abbrev all_learned : Bool
  all_learned = all (learned_fits n) (column learned_at n l)

  -- By columns.
  is-controllers-columns : Is (all tidy_controller (take n l) && queues_fit && all_learned && all blank_controller (drop n l))
      (All ControllerFits (take n l) × All (λ r. T (blank_controller r)) (drop n l))
  is-controllers-columns =
      is-map
      (λ t. let c = t.0 in (
        all-with (λ r a b. (a, b)) (take n l) c.0.0
            (all-with (λ r a b. (a, b)) (take n l)
            (all-unmapped (λ q. T (queue_fits (mastership_fits n) q)) events_at (take n l) c.0.1)
            (all-unmapped (λ m. T (learned_fits n m)) learned_at (take n l) c.1)),
        t.1,
      ))
      (λ h. let a = h.0 in (
        (
          (all-each (λ r x. x.0) (take n l) a, all-mapped (λ q. T (queue_fits (mastership_fits n) q)) events_at (take n l) (all-each (λ r x. x.1.0) (take n l) a)),
          all-mapped (λ m. T (learned_fits n m)) learned_at (take n l) (all-each (λ r x. x.1.1) (take n l) a),
        ),
        h.1,
      ))
      (is_all (λ r. as-is (tidy_controller r)) (take n l) & is_all (λ q. as-is (queue_fits (mastership_fits n) q)) (column events_at n l)
      & is_all (λ m. as-is (learned_fits n m)) (column learned_at n l) & is_all (λ r. as-is (blank_controller r)) (drop n l))

  -- By rows.
  is-controllers : Is (controllers_test n l) (All ControllerFits (take n l) × All (λ r. T (blank_controller r)) (drop n l))
  unfolding controllers_test
  is-controllers = is-places (controller_test n) blank_controller_test past_controller l n most_nodes sized SizedController ControllerFits (λ r. T (blank_controller r)) (λ r k. is-controller r k n) is-no-controller known

-- ---- the columns of the streams

none_open : (running : Bool) (opens : List Bool) → Is (running || all not opens) (All (λ o. T (running || not o)) opens)
none_open true opens = record { to = λ t. every opens; from = λ h. tt }
  where
    every : (l : List Bool) → All (λ o. T true) l
    every [] = tt
    every (o ∷ l) = (tt, every l)
none_open false opens = is_all (λ o. as-is (not o)) opens

module _ (n : ℕ) (running : Bool) (l : List Stream) (claims : Claims) (sized : length l ≡ most_nodes) (known : All SizedStream l)
    (ids : length claims.ids ≡ most_nodes) (terms : length claims.terms ≡ most_nodes) where
  abbrev at : ℕ → Stream
  at i = get_or l i past_stream

  abbrev id_of : ℕ → ℕ
  id_of i = (get_or claims.ids i (record { 0 = 0 })).0

  abbrev term_of : ℕ → ℕ
  term_of i = (get_or claims.terms i (record { 0 = 0 })).0

  abbrev board : S.Board
  board = hold_board n l claims

  -- One stream, of the columns.
  abbrev stream_at : ℕ → Bool
  stream_at i = stream_fits (get_or board.opens i false) (get_or board.sent i 0) (get_or board.requests i []) (get_or board.responses i []) (get_or board.held.ids i 0) (get_or board.terms i 0)

  stream-at : (i : ℕ) → i < n → stream_at i ≡ stream_fits (at i).opened (at i).sent.0 (requests_at (at i)) (responses_at (at i)) (id_of i) (term_of i)
  unfolding hold_board hold_held
  stream-at i h = λ z. stream_fits
      (column-at open_at n i l past_stream h z)
      (column-at sent_at n i l past_stream h z)
      (column-at requests_at n i l past_stream h z)
      (column-at responses_at n i l past_stream h z)
      (column-at id_at n i claims.ids (record { 0 = 0 }) h z)
      (column-at term_at n i claims.terms (record { 0 = 0 }) h z)

  -- The rows in use, and the rows above them.
  record Streams : Type 0 where
    tidy : All (λ r. T (tidy_stream r)) (take n l)
    fit : (i : ℕ) → i < n → T (stream_at i)
    stopped : All (λ o. T (running || not o)) board.opens
    blank : All (λ r. T (blank_stream r)) (drop n l)
    no-ids : All (λ x. T (blank_id x)) (drop n claims.ids)
    no-terms : All (λ x. T (blank_term x)) (drop n claims.terms)

  sized-at : (i : ℕ) → i < most_nodes → SizedStream (at i)
  sized-at i h = taken_at SizedStream most_nodes i l past_stream (all_take SizedStream most_nodes l known) h (omega arith)

  abbrev StreamUsed : ℕ → Type 0
  StreamUsed i = T (tidy_stream (at i)) × (T (stream_fits (at i).opened (at i).sent.0 (requests_at (at i)) (responses_at (at i)) (id_of i) (term_of i)) × T (running || not (at i).opened))

  is-used : (i : ℕ) → i < most_nodes → i < n → Is (stream_place n running l claims i) (StreamUsed i)
  is-used i h j = rw (lt-ltb i n j) (is-stream (at i) (sized-at i h) (id_of i) (term_of i) running)

  is-behind : (i : ℕ) → i < most_nodes → n ≤ i → Is (stream_place n running l claims i) ((T (blank_stream (at i)) × T (is_zero (id_of i))) × T (is_zero (term_of i)))
  is-behind i h j = rw (le-ltb i n j) (is-no-stream (at i) (sized-at i h) (id_of i) (term_of i))

  streams-there : n ≤ most_nodes → ((i : ℕ) → i < most_nodes → T (stream_place n running l claims i)) → Streams
  unfolding hold_board
  streams-there few f =
      let used : (i : ℕ) → i < n → StreamUsed i = λ i j. (is-used i (omega arith) j).to (f i (omega arith)) in
      record {
        tidy = all-taken (λ r. T (tidy_stream r)) n l past_stream (λ i j k. (used i j).0);
        fit = λ i j. subst T (sym (stream-at i j)) (used i j).1.0;
        stopped = all-mapped (λ o. T (running || not o)) open_at (take n l) (all-taken (λ r. T (running || not r.opened)) n l past_stream (λ i j k. (used i j).1.1));
        blank = all-dropped (λ r. T (blank_stream r)) n l past_stream (λ i j k. ((is-behind i (omega arith) j).to (f i (omega arith))).0.0);
        no-ids = all-dropped (λ x. T (blank_id x)) n claims.ids (record { 0 = 0 }) (λ i j k. ((is-behind i (omega arith) j).to (f i (omega arith))).0.1);
        no-terms = all-dropped (λ x. T (blank_term x)) n claims.terms (record { 0 = 0 }) (λ i j k. ((is-behind i (omega arith) j).to (f i (omega arith))).1);
      }

  streams-back : Streams → (i : ℕ) → i < most_nodes → T (stream_place n running l claims i)
  unfolding hold_board
  streams-back s i h = go (dec_lt i n)
    where
      go : Dec (i < n) → T (stream_place n running l claims i)
      go (yes j) = (is-used i h j).from (
        taken_at (λ r. T (tidy_stream r)) n i l past_stream s.tidy j (omega arith),
        (
          subst T (stream-at i j) (s.fit i j),
          taken_at (λ r. T (running || not r.opened)) n i l past_stream
              (all-unmapped (λ o. T (running || not o)) open_at (take n l) s.stopped) j (omega arith),
        ),
      )
      go (no j) = let z : n ≤ i = omega arith in (is-behind i h z).from (
        (dropped-at (λ r. T (blank_stream r)) n i l past_stream s.blank z (omega arith), dropped-at (λ x. T (blank_id x)) n i claims.ids (record { 0 = 0 }) s.no-ids z (omega arith)),
        dropped-at (λ x. T (blank_term x)) n i claims.terms (record { 0 = 0 }) s.no-terms z (omega arith),
      )

  is-streams : n ≤ most_nodes → Is (streams_test n running l claims) Streams
  unfolding streams_test
  is-streams few = is-map (streams-there few) streams-back (is-each (λ i. as-is (stream_place n running l claims i)) most_nodes)

  -- ---- the ids

  is-ids : n ≤ most_nodes → Is (ids_test n claims) (T (distinct_ids (column id_at n claims.ids)))
  unfolding ids_test id_test
  is-ids few =
      let held = column id_at n claims.ids in
      let count = length-column id_at n claims.ids (omega arith) in
      is-map
      (λ f. (is-distinct-ids held).from (first-ids held (λ i k z.
      let j : i < n = omega arith in let e = column-at id_at n i claims.ids (record { 0 = 0 }) j in rw e (f i j (λ o. z (e ∙ o))))))
      (λ t i j z. let e = column-at id_at n i claims.ids (record { 0 = 0 }) j in rw e at (ids-first held ((is-distinct-ids held).to t) i (omega arith) (λ o. z (sym e ∙ o))))
      (is-each (λ i. is-unless (is_zero (id_of i)) (is_ne (id_of i) 0) (is_eq (before (id_of i) held) i)) n)

  is_held : n ≤ most_nodes → Is (held_test n claims) (T (held_fits (hold_held n claims)))
  unfolding held_test held_fits hold_held
  is_held few =
      let held = column id_at n claims.ids in
      let master = as-is (eqb claims.elected.master (master_of held)) in
      let top = as-is (eqb claims.elected.largest.0 (largest held)) in
      let three = as-is (distinct_ids held) & master & top in
      is-map (λ t. three.from ((t.1, t.0.0), t.0.1)) (λ t. let u = three.to t in ((u.0.1, u.1), u.0.0)) (master & top & is-ids few)

-- ---- the state

-- A test that is sure to hold.
sure : {b : Bool} {P : Type 0} → Is b P → P → Is b (Unit {0})
sure h p = record { to = λ t. tt; from = λ u. h.from p }

module _ (s : State) (k : Sized s) where
  abbrev n : ℕ
  n = s.count

  abbrev controllers : List Controller
  controllers = s.core.controllers

  abbrev streams : List Stream
  streams = s.core.streams

  abbrev claims : Claims
  claims = s.core.claims

  abbrev opens : List Bool
  opens = column open_at n streams

  record Facts : Type 0 where
    count : Within 1 most_nodes n
    tidy-service : T (tidy_mastership s.core.service)
    service : T (service_fits n (hold_mastership s.core.service))
    rows : All (ControllerFits n controllers k.controllers k.controller-rows) (take n controllers)
    blank-rows : All (λ r. T (blank_controller r)) (drop n controllers)
    board : Streams n s.running streams claims k.streams k.stream-rows k.ids k.terms
    held : T (held_fits (hold_held n claims))
    last : claims.last.0 ≤ top_term
    tidy-history : T (tidy_history s.history)
    history : T (list_fits history_length (write_fits n) (hold_history s.history))

  is-history : Is (history_test n s.history) (T (tidy_history s.history) × T (list_fits history_length (write_fits n) (hold_history s.history)))
  unfolding history_test tidy_history hold_history
  is-history = is-queue (accepted n) history_length s.history.items k.history (all_any s.history.items) no_write s.history.len

  is-test : Is (state_test s) Facts
  unfolding state_test core_test hold_board
  is-test =
      is-map
      (λ t. let c = t.0.1 in let a = c.0.0 in record {
        count = t.0.0;
        tidy-service = a.0.1.0;
        service = a.0.1.1;
        rows = a.1.0;
        blank-rows = a.1.1;
        board = c.0.1;
        held = c.1;
        last = a.0.0;
        tidy-history = t.1.0;
        history = t.1.1;
      })
      (λ f. ((f.count, ((((f.last, (f.tidy-service, f.service)), (f.rows, f.blank-rows)), f.board), f.held)), (f.tidy-history, f.history)))
      (is-then (is_within 1 most_nodes n) (λ w. let few : n ≤ most_nodes = w.upper in
      is_le claims.last.0 top_term & is-service s.core.service k.service n & is-controllers n controllers k.controllers k.controller-rows
      & is-streams n s.running streams claims k.streams k.stream-rows k.ids k.terms few
      & is_held n s.running streams claims k.streams k.stream-rows k.ids k.terms few)
      & is-history)

  abbrev At : ℕ → Type 0
  At i = T (stream_at n s.running streams claims k.streams k.stream-rows k.ids k.terms i)

  is-board : n ≤ most_nodes → Is (board_fits n s.running (hold_board n streams claims))
      (((((i : ℕ) → i < n → At i) × T (held_fits (hold_held n claims))) × All (λ o. T (s.running || not o)) opens) × (claims.last.0 ≤ top_term))
  unfolding board_fits hold_board hold_held
  is-board few =
      let a = k.streams in
      let b = k.ids in
      let c = k.terms in
      is-map (λ t. (((t.0.0.0.1, t.0.0.1), t.0.1), t.1)) (λ h. (((((((((tt, tt), tt), tt), tt), tt), h.0.0.0), h.0.0.1), h.0.1), h.1))
      (sure (is_eq (length opens) n) (length-column open_at n streams (omega arith))
      & sure (is_eq (length (column sent_at n streams)) n) (length-column sent_at n streams (omega arith))
      & sure (is_eq (length (column requests_at n streams)) n) (length-column requests_at n streams (omega arith))
      & sure (is_eq (length (column responses_at n streams)) n) (length-column responses_at n streams (omega arith))
      & sure (is_eq (length (column id_at n claims.ids)) n) (length-column id_at n claims.ids (omega arith))
      & sure (is_eq (length (column term_at n claims.terms)) n) (length-column term_at n claims.terms (omega arith))
      & is-each (λ i. as-is (stream_at n s.running streams claims k.streams k.stream-rows k.ids k.terms i)) n
      & as-is (held_fits (hold_held n claims))
      & none_open s.running opens
      & is_le claims.last.0 top_term)

  is-core : n ≤ most_nodes → Is (core_fits n s.running (hold_core n s.core))
      (((T (service_fits n (hold_mastership s.core.service)) × T (all (queue_fits (mastership_fits n)) (column events_at n controllers))) × T (all (learned_fits n) (column learned_at n controllers)))
      × (((((i : ℕ) → i < n → At i) × T (held_fits (hold_held n claims))) × All (λ o. T (s.running || not o)) opens) × (claims.last.0 ≤ top_term)))
  unfolding core_fits desk_fits hold_core hold_desk
  is-core few =
      let a = k.controllers in
      is-map (λ t. let d = t.0.0.0.0 in (((d.0.1, d.1), t.0.0.1), t.1)) (λ h. let f = h.0 in (((((((tt, f.0.0), f.0.1), tt), f.1), tt), h.1)))
      (sure (is_eq (length (column events_at n controllers)) n) (length-column events_at n controllers (omega arith))
      & as-is (service_fits n (hold_mastership s.core.service))
      & as-is (all (queue_fits (mastership_fits n)) (column events_at n controllers))
      & sure (is_eq (length (column learned_at n controllers)) n) (length-column learned_at n controllers (omega arith))
      & as-is (all (learned_fits n) (column learned_at n controllers))
      & sure (is_eq (length (column says_at n controllers)) n) (length-column says_at n controllers (omega arith))
      & is-board few)

  abbrev tidy_facts : Type 0
  tidy_facts = (((((T (tidy_mastership s.core.service) × T (all tidy_controller (take n controllers))) × T (all blank_controller (drop n controllers))) × All (λ r. T (tidy_stream r)) (take n streams))
      × All (λ r. T (blank_stream r)) (drop n streams)) × All (λ x. T (blank_id x)) (drop n claims.ids)) × All (λ x. T (blank_term x)) (drop n claims.terms)

  is-tidy : Is (tidy_core n s.core) tidy_facts
  unfolding tidy_core
  is-tidy = as-is (tidy_mastership s.core.service) & as-is (all tidy_controller (take n controllers)) & as-is (all blank_controller (drop n controllers))
      & is_all (λ r. as-is (tidy_stream r)) (take n streams) & is_all (λ r. as-is (blank_stream r)) (drop n streams)
      & is_all (λ x. as-is (blank_id x)) (drop n claims.ids) & is_all (λ x. as-is (blank_term x)) (drop n claims.terms)

  is_state : Is (state_fits s) Facts
  unfolding state_fits in_range hold hold_board
  is_state =
      let w = hold_history s.history in
      let columns = is-controllers-columns n controllers k.controllers k.controller-rows in
      let four = as-is (all tidy_controller (take n controllers)) & as-is (all (queue_fits (mastership_fits n)) (column events_at n controllers))
      & as-is (all (learned_fits n) (column learned_at n controllers)) & as-is (all blank_controller (drop n controllers)) in
      let listed = as-is (leb (length w) history_length) & as-is (all (write_fits n) w) in
      is-map
      (λ t. let y = t.0.0 in let z = y.0.0.0.0 in let c = t.1.0.0.1 in
      let rows = columns.to (four.from (((z.0.1, c.0.0.1), c.0.1), z.1)) in record {
        count = t.1.0.0.0;
        tidy-service = z.0.0;
        service = c.0.0.0;
        rows = rows.0;
        blank-rows = rows.1;
        board = record { tidy = y.0.0.0.1; fit = c.1.0.0.0; stopped = c.1.0.1; blank = y.0.0.1; no-ids = y.0.1; no-terms = y.1 };
        held = c.1.0.0.1;
        last = c.1.1;
        tidy-history = t.0.1;
        history = listed.from (t.1.0.1, t.1.1);
      })
      (λ f. let m = four.to (columns.from (f.rows, f.blank-rows)) in let q = f.board in let h = listed.to f.history in (
        (((((((f.tidy-service, m.0.0.0), m.1), q.tidy), q.blank), q.no-ids), q.no-terms), f.tidy-history),
        (((f.count, (((f.service, m.0.0.1), m.0.1), (((q.fit, f.held), q.stopped), f.last))), h.0), h.1),
      ))
      (is-tidy & as-is (tidy_history s.history)
      & (is-then (is_within 1 most_nodes n) (λ v. is-core v.upper) & as-is (leb (length w) history_length) & as-is (all (write_fits n) w)))

  -- The code's test is the test of the specification.
  pub state-agree : state_test s ≡ state_fits s
  state-agree = agree (state_test s) (state_fits s) is-test is_state
