-- The test `in_range` is true exactly of the states in range. Assumes nothing.
use Rattle.std.specs.Prelude.{◌≡◌, refl, ◌≢◌, Bool, false, cond, List, [], ℕ, ◌≤◌, ◌<◌, length, get_or, T, eqb}
use Rattle.std.proofs.Common.{ap, arith, eq-eqb, ne_eqb}
use Rattle.std.proofs.Math.Decide.{dec_lt, ℕ_discrete}
use Rattle.std.proofs.Math.ListN.{get_or-eq_default}
use Rattle.rules.specs.Limits.{most_nodes, top_term, top_id, queue_length, history_length}
use Rattle.rules.specs.State.{Mastership, Message, update, write, Status, ok, already_exists, not_found, permission_denied, Request, Response, Write, Desk, Held, Board, Core, State}
use Rattle.rules.specs.Range.{queue_fits, backup_fits, mastership_fits, service_fits, learned_fits, desk_fits, request_fits, answer_fits, response_fits, stream_fits, held_fits, board_fits, write_fits, core_fits, in_range}
use Rattle.rules.specs.Election.{largest, master_of, elected}
use Rattle.rules_laws.specs.InRange.{QueueFits, BackupFits, MastershipFits, ServiceFits, masterless, ruled, LearnedFits, unlearned, knows, DeskFits, RequestFits, AnswerFits, ResponseFits, StreamFits, StreamAt, HeldFits, BoardFits, WriteFits, CoreFits, InRange}
use Rattle.rules_laws.specs.Tests.{Is, is-map, ◌&◌, is-not, is-unless, is_le, is_eq, is_ne, is_within, is-empty, is_all, is-each, is-distinct, is-distinct-ids}

-- ---- the service and the nodes

is-queue : {A : Type 0} {p : A → Bool} {P : A → Type 0} → ((x : A) → Is (p x) (P x)) → (q : List A) → Is (queue_fits p q) (QueueFits P q)
unfolding queue_fits
is-queue h q = is-map (λ t. record { short = t.0; items = t.1 }) (λ k. (k.short, k.items)) (is_le (length q) queue_length & is_all h q)

is-backup : (count master b : ℕ) → Is (backup_fits count master b) (BackupFits count master b)
unfolding backup_fits
is-backup count master b = is-map (λ t. record { node = t.0; other = t.1 }) (λ k. (k.node, k.other)) (is_within 1 count b & is_ne b master)

is-mastership : (count : ℕ) (m : Mastership) → Is (mastership_fits count m) (MastershipFits count m)
unfolding mastership_fits
is-mastership count m =
    is-map (λ t. record { term = t.0.0.0; master = t.0.0.1; backups = t.0.1; distinct = t.1 }) (λ k. (((k.term, k.master), k.backups), k.distinct))
    (is_within 1 top_term m.term & is_within 1 count m.master & is_all (is-backup count m.master) m.backups & is-distinct m.backups)

-- The number x decides between two tests.
is_zero : (x : ℕ) {a b : Bool} {P Q R : Type 0} → Is a P → Is b Q → (x ≡ 0 → P → R) → (x ≡ 0 → R → P) → (Q → R) → (x ≢ 0 → R → Q) → Is (cond (eqb x 0) a b) R
is_zero x {a} {b} {P} {Q} {R} h k f f' g g' = go (ℕ_discrete x 0)
  where
    go : Dec (x ≡ 0) → Is (cond (eqb x 0) a b) R
    go (yes e) = rw (eq-eqb x 0 e) (is-map (f e) (f' e) h)
    go (no z) = rw (ne_eqb x 0 z) (is-map g (g' z) k)

is-service : (count : ℕ) (m : Mastership) → Is (service_fits count m) (ServiceFits count m)
unfolding service_fits
is-service count m =
    is_zero m.master (is_le m.term top_term & is-empty m.backups) (is-mastership count m) (λ e t. masterless e t.1 t.0) lone ruled mastered
  where
    lone : m.master ≡ 0 → ServiceFits count m → (m.term ≤ top_term) × (m.backups ≡ [])
    lone e (masterless a b c) = (c, b)
    lone e (ruled k) = let l : 1 ≤ m.master = k.master.lower in absurd (omega arith)

    mastered : m.master ≢ 0 → ServiceFits count m → MastershipFits count m
    mastered z (masterless a b c) = absurd (z a)
    mastered z (ruled k) = k

is-learned : (count : ℕ) (m : Mastership) → Is (learned_fits count m) (LearnedFits count m)
unfolding learned_fits
is-learned count m =
    is_zero m.term (is_eq m.master 0 & is-empty m.backups) (is-mastership count m)
    (λ e t. unlearned (λ i. record { term = e i; master = t.0 i; backups = t.1 i })) nothing knows full
  where
    nothing : m.term ≡ 0 → LearnedFits count m → (m.master ≡ 0) × (m.backups ≡ [])
    nothing e (unlearned k) = (ap (λ x. x.master) k, ap (λ x. x.backups) k)
    nothing e (knows k) = let l : 1 ≤ m.term = k.term.lower in absurd (omega arith)

    full : m.term ≢ 0 → LearnedFits count m → MastershipFits count m
    full z (unlearned k) = absurd (z (ap (λ x. x.term) k))
    full z (knows k) = k

is-desk : (count : ℕ) (d : Desk) → Is (desk_fits count d) (DeskFits count d)
unfolding desk_fits
is-desk count d =
    is-map (λ t. record { size = t.0.0; service = t.0.1; events = t.1 }) (λ k. ((k.size, k.service), k.events))
    (is_eq (length d.events) count & is-service count d.service & is_all (is-queue (is-mastership count)) d.events)

-- ---- the streams and the switch

is-request : (r : Request) → Is (request_fits r) (RequestFits r)
unfolding request_fits
is-request r = is-map (λ t. record { id = t.0; term = t.1 }) (λ k. (k.id, k.term)) (is_within 1 top_id r.id & is_within 1 top_term r.term)

is-answer : (m : Message) (s : Status) (id : ℕ) → Is (answer_fits m s id) (AnswerFits m s id)
unfolding answer_fits
is-answer update ok id = is_le id top_id
is-answer update already_exists id = is_le id top_id
is-answer update not_found id = is_le id top_id
is-answer update permission_denied id = record { to = λ t. t; from = λ t. t }
is-answer write ok id = is_eq id 0
is-answer write already_exists id = record { to = λ t. t; from = λ t. t }
is-answer write not_found id = record { to = λ t. t; from = λ t. t }
is-answer write permission_denied id = is_eq id 0

is-response : (r : Response) → Is (response_fits r) (ResponseFits r)
unfolding response_fits
is-response r = is-answer r.message r.status r.id

is-stream : (o : Bool) (sent : ℕ) (q : List Request) (r : List Response) (id term : ℕ) → Is (stream_fits o sent q r id term) (StreamFits o sent q r id term)
unfolding stream_fits
is-stream o sent q r id term =
    is-map
    (λ x. record {
      sent-high = x.0.0.0.0.0;
      requests-fit = x.0.0.0.0.1;
      responses-fit = x.0.0.0.1;
      id-high = x.0.0.1;
      term-high = x.0.1;
      shut = λ e. let y = x.1 e in record { no-sent = y.0.0.0.0; no-requests = y.0.0.0.1; no-responses = y.0.0.1; no-id = y.0.1; no-term = y.1 };
    })
    (λ k. (
      ((((k.sent-high, k.requests-fit), k.responses-fit), k.id-high), k.term-high),
      λ e. let y = k.shut e in ((((y.no-sent, y.no-requests), y.no-responses), y.no-id), y.no-term),
    ))
    (is_le sent top_term & is-queue is-request q & is-queue is-response r & is_le id top_id & is_le term top_term
    & is-unless o (is-not o) (is_eq sent 0 & is-empty q & is-empty r & is_eq id 0 & is_eq term 0))

pub no_stream : StreamFits false 0 [] [] 0 0
no_stream = record {
  sent-high = omega arith;
  requests-fit = record { short = omega arith; items = tt };
  responses-fit = record { short = omega arith; items = tt };
  id-high = omega arith;
  term-high = omega arith;
  shut = λ e. record { no-sent = refl; no-requests = refl; no-responses = refl; no-id = refl; no-term = refl };
}

is_held : (h : Held) → Is (held_fits h) (HeldFits h)
unfolding held_fits elected
is_held h =
    is-map (λ t. record { distinct = t.0.0; made = λ i. record { ids = h.ids; master = t.0.1 i; largest = t.1 i } })
    (λ k. ((k.distinct, ap (λ x. x.master) k.made), ap (λ x. x.largest) k.made))
    (is-distinct-ids h.ids & is_eq h.master (master_of h.ids) & is_eq h.largest (largest h.ids))

module _ (count : ℕ) (running : Bool) (w : Board) where
  past : {A : Type 0} (l : List A) (d : A) (i : ℕ) → length l ≡ count → ¬ (i < count) → get_or l i d ≡ d
  past l d i e h = get_or-eq_default l d (let z : length l ≡ count = e in omega arith)

  -- Past the end every stream is a closed one.
  every : length w.opens ≡ count → length w.sent ≡ count → length w.requests ≡ count → length w.responses ≡ count → length w.held.ids ≡ count → length w.terms ≡ count
      → ((i : ℕ) → i < count → StreamAt w i) → (i : ℕ) → Dec (i < count) → StreamAt w i
  every a b c d e f h i (yes k) = h i k
  every a b c d e f h i (no z) =
      rw (past w.opens false i a z, past w.sent 0 i b z, past w.requests [] i c z, past w.responses [] i d z, past w.held.ids 0 i e z, past w.terms 0 i f z) no_stream

  is-board : Is (board_fits count running w) (BoardFits count running w)
  unfolding board_fits
  is-board =
      is-map
      (λ t. let s = t.0.0.0.0 in record {
        opens-size = s.0.0.0.0.0;
        sent-size = s.0.0.0.0.1;
        requests-size = s.0.0.0.1;
        responses-size = s.0.0.1;
        ids-size = s.0.1;
        terms-size = s.1;
        streams = λ i. every s.0.0.0.0.0 s.0.0.0.0.1 s.0.0.0.1 s.0.0.1 s.0.1 s.1 t.0.0.0.1 i (dec_lt i count);
        held = t.0.0.1;
        stopped = t.0.1;
        last = t.1;
      })
      (λ k. (((((((((k.opens-size, k.sent-size), k.requests-size), k.responses-size), k.ids-size), k.terms-size), λ i l. k.streams i), k.held), k.stopped), k.last))
      (is_eq (length w.opens) count & is_eq (length w.sent) count & is_eq (length w.requests) count & is_eq (length w.responses) count
      & is_eq (length w.held.ids) count & is_eq (length w.terms) count
      & is-each (λ i. is-stream (get_or w.opens i false) (get_or w.sent i 0) (get_or w.requests i []) (get_or w.responses i []) (get_or w.held.ids i 0) (get_or w.terms i 0)) count
      & is_held w.held
      & is-unless running (is-not running) (is_all is-not w.opens)
      & is_le w.last top_term)

-- ---- the state

is-write : (count : ℕ) (e : Write) → Is (write_fits count e) (WriteFits count e)
unfolding write_fits
is-write count e = is-map (λ t. record { node = t.0; term = t.1 }) (λ k. (k.node, k.term)) (is_within 1 count e.node & is_within 1 top_term e.term)

is-core : (count : ℕ) (running : Bool) (c : Core) → Is (core_fits count running c) (CoreFits count running c)
unfolding core_fits
is-core count running c =
    is-map (λ t. record { desk = t.0.0.0.0; learned-size = t.0.0.0.1; learned = t.0.0.1; says-size = t.0.1; board = t.1 })
    (λ k. ((((k.desk, k.learned-size), k.learned), k.says-size), k.board))
    (is-desk count c.desk & is_eq (length c.learned) count & is_all (is-learned count) c.learned & is_eq (length c.says) count & is-board count running c.board)

pub is_in_range : (s : State) → Is (in_range s) (InRange s)
unfolding in_range
is_in_range s =
    is-map (λ t. record { count = t.0.0.0; core = t.0.0.1; history-size = t.0.1; history = t.1 })
    (λ k. (((k.count, k.core), k.history-size), k.history))
    (is_within 1 most_nodes s.count & is-core s.count s.running s.core & is_le (length s.history) history_length & is_all (is-write s.count) s.history)

pub range-sound : (s : State) → T (in_range s) → InRange s
range-sound s t = (is_in_range s).to t

pub range-complete : (s : State) → InRange s → T (in_range s)
range-complete s r = (is_in_range s).from r
