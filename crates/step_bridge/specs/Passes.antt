-- A state in range that is written into structs passes their test: unused places and rows above N are blank. Assumes nothing.
use Rattle.std.specs.Prelude.{◌≡◌, Bool, true, false, not, ℕ, ◌≤◌, length, take, drop}
use mathlib.Core.List.{List, [], ◌∷◌}
use Rattle.std.proofs.Common.{arith}
use Rattle.std.proofs.Math.Dec.{T}
use Rattle.std.proofs.Math.ListN.{get_or, get_or-eq_default}
use Rattle.rules.specs.Limits.{most_nodes, most_backups, queue_length, history_length}
use Rattle.rules.specs.State as S
use Rattle.rules.specs.Range.{all, in_range}
use Rattle.rules_laws.specs.All.{All}
use Rattle.rules_laws.specs.InRange.{CoreFits}
use Rattle.rules_laws.specs.RangeTest.{range-sound}
use Rattle.rules_laws.specs.Tests.{◌&◌, as-is, is-yes, is_le, is_all}
use Rattle.rules_laws.specs.Lists.{all-each}
use Rattle.any_list.specs.Arrays.{padded, table}
use Rattle.step_parts.specs.Hold.{as_is, pack_mastership, no_mastership, pack_message, pack_request, no_request, pack_status, pack_response, no_response, pack_write}
use Rattle.step_state.specs.Hold.{pack_controller, pack_stream, controller_row, stream_row, id_row, term_row, pack_controllers, pack_streams, pack_claims, pack_core, pack_history, no_write, hold, represent}
use Rattle.step_state.specs.Tidy.{is_zero, no_message, no_status, blank_mastership, blank_request, blank_response, tidy_mastership, tidy_request, tidy_response, tidy_places, tidy_controller, tidy_stream, blank_controller, blank_stream, blank_id, blank_term, tidy_core, any_write, blank_write, tidy_history, state_fits}
use Rattle.step_bridge.specs.Rows.{taken-table, dropped-table, taken-padded, dropped-padded}
use Rattle.step_bridge.specs.Held.{hold-represent}
use Rattle.step_bridge.specs.InOrder.{event-short, service-short, learned-short, events-at, learned-at}

-- ---- places

module _ {B : Type 0} (p : B → Bool) where
  from_all : (l : List B) → All (λ x. T (p x)) l → T (all p l)
  from_all l h = (is_all (λ x. as-is (p x)) l).from h

module _ {A B : Type 0} (blank : B) (rep : A → B) (tidy is_blank : B → Bool) (none : T (is_blank blank)) where
  places-pass : (size : ℕ) (l : List A) → length l ≤ size → All (λ x. T (tidy (rep x))) l → T (tidy_places size tidy is_blank (padded blank rep size l) (length l))
  unfolding tidy_places
  places-pass size l h k = (is_le (length l) size & as-is (all tidy (take (length l) (padded blank rep size l))) & as-is (all is_blank (drop (length l) (padded blank rep size l)))).from (
    (h, from_all tidy (take (length l) (padded blank rep size l)) (taken-padded blank rep (λ x. T (tidy x)) size l k)),
    from_all is_blank (drop (length l) (padded blank rep size l)) (dropped-padded blank rep (λ x. T (is_blank x)) size l none),
  )

-- ---- elements

mastership-passes : (m : S.Mastership) → length m.backups ≤ most_backups → T (tidy_mastership (pack_mastership m))
unfolding tidy_mastership
mastership-passes m h = let l = m.backups in (is_le (length l) most_backups & as-is (all is_zero (drop (length l) (padded 0 as_is most_backups l)))).from
    (h, from_all is_zero (drop (length l) (padded 0 as_is most_backups l)) (dropped-padded 0 as_is (λ x. T (is_zero x)) most_backups l tt))

message-passes : (m : S.Message) → T (not (no_message (pack_message m)))
unfolding no_message
message-passes S.update = tt
message-passes S.write = tt

status-passes : (s : S.Status) → T (not (no_status (pack_status s)))
unfolding no_status
status-passes S.ok = tt
status-passes S.already_exists = tt
status-passes S.not_found = tt
status-passes S.permission_denied = tt

request-passes : (r : S.Request) → T (tidy_request (pack_request r))
unfolding tidy_request
request-passes r = message-passes r.message

response-passes : (r : S.Response) → T (tidy_response (pack_response r))
unfolding tidy_response
response-passes r = (as-is (not (no_message (pack_message r.message))) & as-is (not (no_status (pack_status r.status)))).from (message-passes r.message, status-passes r.status)

every : {A : Type 0} {P : A → Type 0} → ((x : A) → P x) → (l : List A) → All P l
every f [] = tt
every f (x ∷ l) = (f x, every f l)

no-mastership : T (blank_mastership no_mastership)
unfolding blank_mastership all
no-mastership = tt

no-request : T (blank_request no_request)
unfolding blank_request no_message
no-request = tt

no-response : T (blank_response no_response)
unfolding blank_response no_message no_status
no-response = tt

no-write : T (blank_write no_write)
unfolding blank_write
no-write = tt

-- ---- rows

no-controller : T (blank_controller (pack_controller [] S.blank false))
unfolding blank_controller blank_mastership all
no-controller = tt

no_stream : T (blank_stream (pack_stream false 0 [] []))
unfolding blank_stream blank_request blank_response no_message no_status all
no_stream = tt

module _ (n : ℕ) (running : Bool) (c : S.Core) (few : n ≤ most_nodes) (k : CoreFits n running c) where
  controller-passes : (i : ℕ) → T (tidy_controller (controller_row c.desk.events c.learned c.says i))
  unfolding tidy_controller
  controller-passes i =
      let q = get_or c.desk.events i [] in
      let m = get_or c.learned i S.blank in
      let h = events-at n running c few k i in
      (as-is (tidy_places queue_length tidy_mastership blank_mastership (padded no_mastership pack_mastership queue_length q) (length q)) & as-is (tidy_mastership (pack_mastership m))).from (
        places-pass no_mastership pack_mastership tidy_mastership blank_mastership no-mastership queue_length q h.short (all-each (λ x a. mastership-passes x (event-short n few x a)) q h.items),
        mastership-passes m (learned-short n few m (learned-at n running c few k i)),
      )

  stream-passes : (i : ℕ) → T (tidy_stream (stream_row c.board i))
  unfolding tidy_stream
  stream-passes i =
      let q = get_or c.board.requests i [] in
      let a = get_or c.board.responses i [] in
      let h = k.board.streams i in
      (as-is (tidy_places queue_length tidy_request blank_request (padded no_request pack_request queue_length q) (length q)) & as-is (tidy_places queue_length tidy_response blank_response (padded no_response pack_response queue_length a) (length a))).from (
        places-pass no_request pack_request tidy_request blank_request no-request queue_length q h.requests-fit.short (every request-passes q),
        places-pass no_response pack_response tidy_response blank_response no-response queue_length a h.responses-fit.short (every response-passes a),
      )

  past : {A : Type 0} (l : List A) (d : A) (i : ℕ) → length l ≡ n → n ≤ i → get_or l i d ≡ d
  past l d i e h = get_or-eq_default l d (let z : length l ≡ n = e in omega arith)

  controller-blank : (i : ℕ) → n ≤ i → T (blank_controller (controller_row c.desk.events c.learned c.says i))
  controller-blank i h = rw (past c.desk.events [] i k.desk.size h, past c.learned S.blank i k.learned-size h, past c.says false i k.says-size h) no-controller

  stream-blank : (i : ℕ) → n ≤ i → T (blank_stream (stream_row c.board i))
  stream-blank i h = let w = c.board in let z = k.board in
      rw (past w.opens false i z.opens-size h, past w.sent 0 i z.sent-size h, past w.requests [] i z.requests-size h, past w.responses [] i z.responses-size h) no_stream

  core-passes : T (tidy_core n (pack_core c))
  unfolding tidy_core pack_core pack_controllers pack_streams pack_claims
  core-passes =
      let w = c.board in
      let controllers = table most_nodes (controller_row c.desk.events c.learned c.says) in
      let streams = table most_nodes (stream_row w) in
      let ids = table most_nodes (id_row w.held.ids) in
      let terms = table most_nodes (term_row w.terms) in
      (as-is (tidy_mastership (pack_mastership c.desk.service)) & as-is (all tidy_controller (take n controllers)) & as-is (all blank_controller (drop n controllers))
      & as-is (all tidy_stream (take n streams)) & as-is (all blank_stream (drop n streams)) & as-is (all blank_id (drop n ids)) & as-is (all blank_term (drop n terms))).from (
        (
          (
            (
              (
                (
                  mastership-passes c.desk.service (service-short n few c.desk.service k.desk.service),
                  from_all tidy_controller (take n controllers) (taken-table (λ r. T (tidy_controller r)) n most_nodes (controller_row c.desk.events c.learned c.says) (λ i h. controller-passes i)),
                ),
                from_all blank_controller (drop n controllers) (dropped-table (λ r. T (blank_controller r)) n most_nodes (controller_row c.desk.events c.learned c.says) controller-blank),
              ),
              from_all tidy_stream (take n streams) (taken-table (λ r. T (tidy_stream r)) n most_nodes (stream_row w) (λ i h. stream-passes i)),
            ),
            from_all blank_stream (drop n streams) (dropped-table (λ r. T (blank_stream r)) n most_nodes (stream_row w) stream-blank),
          ),
          from_all blank_id (drop n ids) (dropped-table (λ r. T (blank_id r)) n most_nodes (id_row w.held.ids) (λ i h. rw (past w.held.ids 0 i k.board.ids-size h) tt)),
        ),
        from_all blank_term (drop n terms) (dropped-table (λ r. T (blank_term r)) n most_nodes (term_row w.terms) (λ i h. rw (past w.terms 0 i k.board.terms-size h) tt)),
      )

-- ---- the state

history-passes : (l : List S.Write) → length l ≤ history_length → T (tidy_history (pack_history l))
unfolding tidy_history pack_history
history-passes l h = places-pass no_write pack_write any_write blank_write no-write history_length l h (every (λ e. tt) l)

passes : (t : S.State) → T (in_range t) → T (state_fits (represent t))
unfolding state_fits represent
passes t h = let r = range-sound t h in
    (as-is (tidy_core t.count (pack_core t.core)) & as-is (tidy_history (pack_history t.history)) & as-is (in_range (hold (represent t)))).from (
      (core-passes t.count t.running t.core r.count.upper r.core, history-passes t.history r.history-size),
      rw (hold-represent t h) h,
    )

pub fits-represent : (t : S.State) → T (in_range t) → state_fits (represent t) ≡ true
fits-represent t h = (is-yes (state_fits (represent t))).to (passes t h)
