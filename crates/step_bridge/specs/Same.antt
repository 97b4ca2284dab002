-- A state whose unused places are blank is what it holds, written. Assumes nothing.
use Rattle.std.specs.Prelude.{◌≡◌, refl, Bool, true, not, ℕ, ◌≤◌, T, take, drop}
use Rattle.std.proofs.Common.{sym, ap, ◌∙◌}
use Rattle.std.proofs.Math.Bool.{false}
use mathlib.Core.List.{List, [], ◌∷◌, map}
use native.Mathlib.Omega.{arith}
use Rattle.std.proofs.Math.ListN.{length, length-map}
use Rattle.std.proofs.Math.Seq.{length-take-le}
use Rattle.rules.specs.Limits.{most_nodes, most_backups, queue_length, history_length}
use Rattle.rules.specs.Range.{all, in_range}
use Rattle.rules.specs.State as S
use Rattle.rules_laws.specs.All.{All}
use Rattle.rules_laws.specs.RangeTest.{range-sound}
use Rattle.rules_laws.specs.Tests.{◌&◌, as-is, is-not, is_le, is_eq, is_all, is-yes}
use Rattle.any_list.specs.Arrays.{column, padded}
use Rattle.any_list.specs.Columns.{column-at}
use Rattle.step_parts.specs.declared.Mastership.{Mastership}
use Rattle.step_parts.specs.declared.Message.{Message}
use Rattle.step_parts.specs.declared.Message.TheVariants as M
use Rattle.step_parts.specs.declared.Status.{Status}
use Rattle.step_parts.specs.declared.Status.TheVariants as Codes
use Rattle.step_parts.specs.declared.Request.{Request}
use Rattle.step_parts.specs.declared.Response.{Response}
use Rattle.step_parts.specs.declared.ElectionId.{ElectionId}
use Rattle.step_parts.specs.declared.Term.{Term}
use Rattle.step_parts.specs.Hold.{hold_mastership, pack_mastership, no_mastership, as_is, hold_message, pack_message, hold_status, pack_status, hold_request, pack_request, no_request, hold_response, pack_response, no_response, hold_write, pack_write}
use Rattle.step_state.specs.declared.Controller.{Controller}
use Rattle.step_state.specs.declared.Stream.{Stream}
use Rattle.step_state.specs.declared.Claims.{Claims}
use Rattle.step_parts.specs.declared.Write.{Write}
use Rattle.step_state.specs.declared.History.{History}
use Rattle.step_state.specs.declared.State.{State}
use Rattle.step_state.specs.Hold.{events_at, learned_at, says_at, open_at, sent_at, requests_at, responses_at, id_at, term_at, pack_controller, pack_stream, controller_row, stream_row, id_row, term_row, pack_controllers, pack_streams, pack_claims, pack_core, pack_history, no_write, hold_held, hold_board, hold_desk, hold_core, hold_history, hold, represent}
use Rattle.step_state.specs.Order.{past_controller, past_stream}
use Rattle.step_state.specs.Tidy.{is_zero, no_message, no_status, blank_mastership, blank_request, blank_response, tidy_mastership, tidy_request, tidy_response, tidy_places, tidy_controller, tidy_stream, blank_controller, blank_stream, blank_id, blank_term, tidy_core, any_write, blank_write, tidy_history, state_fits}
use Rattle.step_bridge.specs.Sized.{SizedMastership, SizedController, SizedStream, Sized}
use Rattle.step_bridge.specs.Rows.{Any, all_any, all_take, all_drop, all_known, column-past, table_same, padded-same}

-- ---- the places of any array

-- The elements of an array: how they are written and read, the tests of a tidy one and of a blank one, what those say, and what is known of every element.
record Element (A B : Type 0) : Type 1 where
  blank : B
  rep : A → B
  hold : B → A
  Known : B → Type 0
  tidy : B → Bool
  is_blank : B → Bool
  same : (x : B) → Known x → T (tidy x) → rep (hold x) ≡ x
  none : (x : B) → Known x → T (is_blank x) → x ≡ blank

-- The places are what they hold, written.
record Places {A B : Type 0} (e : Element A B) (size : ℕ) (l : List B) (len : ℕ) : Type 0 where
  items : padded e.blank e.rep size (map e.hold (take len l)) ≡ l
  held : length (map e.hold (take len l)) ≡ len

module _ {A B : Type 0} (e : Element A B) (size : ℕ) (l : List B) (sized : length l ≡ size) (known : All e.Known l) where
  places_same : (len : ℕ) → T (tidy_places size e.tidy e.is_blank l len) → Places e size l len
  unfolding tidy_places
  places_same len t = let h = (is_le len size & as-is (all e.tidy (take len l)) & as-is (all e.is_blank (drop len l))).to t in let z : len ≤ size = h.0.0 in record {
    items = padded-same e.blank e.rep e.hold size len l sized (all_known e.tidy e.same (take len l) (all_take e.Known len l known) h.0.1) (all_known e.is_blank e.none (drop len l) (all_drop e.Known len l known) h.1);
    held = length-map (take len l) e.hold ∙ length-take-le len l (omega arith);
  }

  -- All places are blank.
  places-none : T (all e.is_blank l) → l ≡ padded e.blank e.rep size []
  places-none t = sym (padded-same e.blank e.rep e.hold size 0 l sized tt (all_known e.is_blank e.none l known t))

all-refl : {B : Type 0} (l : List B) → All (λ x. x ≡ x) l
all-refl [] = tt
all-refl (x ∷ l) = (refl, all-refl l)

-- ---- masterships

as-is-all : (l : List ℕ) → map as_is l ≡ l
as-is-all [] = refl
as-is-all (x ∷ l) = ap (λ (k : List ℕ). x ∷ k) (as-is-all l)

all-zero : (l : List ℕ) → T (all is_zero l) → All (λ x. x ≡ 0) l
all-zero l t = (is_all (λ x. is_eq x 0) l).to t

pub mastership-same : (m : Mastership) → SizedMastership m → T (tidy_mastership m) → pack_mastership (hold_mastership m) ≡ m
unfolding tidy_mastership
mastership-same m h t = let k = (is_le m.len most_backups & as-is (all is_zero (drop m.len m.backups))).to t in λ i. record {
  term = m.term;
  master = m.master;
  backups = (ap (padded 0 as_is most_backups) (sym (as-is-all (take m.len m.backups))) ∙ padded-same 0 as_is as_is most_backups m.len m.backups h (all-refl (take m.len m.backups)) (all-zero (drop m.len m.backups) k.1)) i;
  len = length-take-le m.len m.backups (let z : m.len ≤ most_backups = k.0 in omega arith) i;
}

pub mastership-none : (m : Mastership) → SizedMastership m → T (blank_mastership m) → m ≡ no_mastership
unfolding blank_mastership
mastership-none m h t = let k = (is_eq m.term.0 0 & is_eq m.master 0 & as-is (all is_zero m.backups) & is_eq m.len 0).to t in λ i. record {
  term = record { 0 = k.0.0.0 i };
  master = k.0.0.1 i;
  backups = sym (padded-same 0 as_is as_is most_backups 0 m.backups h tt (all-zero m.backups k.0.1)) i;
  len = k.1 i;
}

abbrev mastership : Element S.Mastership Mastership
mastership = record {
  blank = no_mastership;
  rep = pack_mastership;
  hold = hold_mastership;
  Known = SizedMastership;
  tidy = tidy_mastership;
  is_blank = blank_mastership;
  same = mastership-same;
  none = mastership-none;
}

-- ---- messages

message-same : (m : Message) → T (not (no_message m)) → pack_message (hold_message m) ≡ m
unfolding no_message
message-same M.Nothing t = absurd t
message-same M.Update t = refl
message-same M.Write t = refl

message-none : (m : Message) → T (no_message m) → m ≡ M.Nothing
unfolding no_message
message-none M.Nothing t = refl
message-none M.Update t = absurd t
message-none M.Write t = absurd t

status-same : (s : Status) → T (not (no_status s)) → pack_status (hold_status s) ≡ s
unfolding no_status
status-same Codes.Nothing t = absurd t
status-same Codes.Ok t = refl
status-same Codes.AlreadyExists t = refl
status-same Codes.NotFound t = refl
status-same Codes.PermissionDenied t = refl

status-none : (s : Status) → T (no_status s) → s ≡ Codes.Nothing
unfolding no_status
status-none Codes.Nothing t = refl
status-none Codes.Ok t = absurd t
status-none Codes.AlreadyExists t = absurd t
status-none Codes.NotFound t = absurd t
status-none Codes.PermissionDenied t = absurd t

request-same : (r : Request) → Any r → T (tidy_request r) → pack_request (hold_request r) ≡ r
unfolding tidy_request
request-same r k t = λ i. record { message = message-same r.message t i; id = r.id; term = r.term }

request-none : (r : Request) → Any r → T (blank_request r) → r ≡ no_request
unfolding blank_request
request-none r k t = let h = (as-is (no_message r.message) & is_eq r.id.0 0 & is_eq r.term.0 0).to t in λ i. record {
  message = message-none r.message h.0.0 i;
  id = record { 0 = h.0.1 i };
  term = record { 0 = h.1 i };
}

response-same : (r : Response) → Any r → T (tidy_response r) → pack_response (hold_response r) ≡ r
unfolding tidy_response
response-same r k t = let h = (as-is (not (no_message r.message)) & as-is (not (no_status r.status))).to t in λ i. record {
  message = message-same r.message h.0 i;
  status = status-same r.status h.1 i;
  id = r.id;
}

response-none : (r : Response) → Any r → T (blank_response r) → r ≡ no_response
unfolding blank_response
response-none r k t = let h = (as-is (no_message r.message) & as-is (no_status r.status) & is_eq r.id.0 0).to t in λ i. record {
  message = message-none r.message h.0.0 i;
  status = status-none r.status h.0.1 i;
  id = record { 0 = h.1 i };
}

abbrev request : Element S.Request Request
request = record {
  blank = no_request;
  rep = pack_request;
  hold = hold_request;
  Known = Any;
  tidy = tidy_request;
  is_blank = blank_request;
  same = request-same;
  none = request-none;
}

abbrev response : Element S.Response Response
response = record {
  blank = no_response;
  rep = pack_response;
  hold = hold_response;
  Known = Any;
  tidy = tidy_response;
  is_blank = blank_response;
  same = response-same;
  none = response-none;
}

-- ---- rows

controller-same : (r : Controller) → SizedController r → T (tidy_controller r) → pack_controller (events_at r) (learned_at r) (says_at r) ≡ r
unfolding tidy_controller
controller-same r k t =
    let q = r.events in
    let h = (as-is (tidy_places queue_length tidy_mastership blank_mastership q.items q.len) & as-is (tidy_mastership r.learned)).to t in
    let events = places_same mastership queue_length q.items k.events k.items q.len h.0 in
    λ i. record { events = record { items = events.items i; len = events.held i }; learned = mastership-same r.learned k.learned h.1 i; says = r.says }

controller-none : (r : Controller) → SizedController r → T (blank_controller r) → r ≡ pack_controller [] S.blank false
unfolding blank_controller
controller-none r k t =
    let q = r.events in
    let h = (as-is (all blank_mastership q.items) & is_eq q.len 0 & as-is (blank_mastership r.learned) & is-not r.says).to t in
    λ i. record {
      events = record { items = places-none mastership queue_length q.items k.events k.items h.0.0.0 i; len = h.0.0.1 i };
      learned = mastership-none r.learned k.learned h.0.1 i;
      says = h.1 i;
    }

stream-same : (r : Stream) → SizedStream r → T (tidy_stream r) → pack_stream (open_at r) (sent_at r) (requests_at r) (responses_at r) ≡ r
unfolding tidy_stream
stream-same r k t =
    let q = r.requests in
    let a = r.responses in
    let h = (as-is (tidy_places queue_length tidy_request blank_request q.items q.len) & as-is (tidy_places queue_length tidy_response blank_response a.items a.len)).to t in
    let requests = places_same request queue_length q.items k.requests (all_any q.items) q.len h.0 in
    let responses = places_same response queue_length a.items k.responses (all_any a.items) a.len h.1 in
    λ i. record {
      opened = r.opened;
      sent = r.sent;
      requests = record { items = requests.items i; len = requests.held i };
      responses = record { items = responses.items i; len = responses.held i };
    }

stream-none : (r : Stream) → SizedStream r → T (blank_stream r) → r ≡ pack_stream false 0 [] []
unfolding blank_stream
stream-none r k t =
    let q = r.requests in
    let a = r.responses in
    let h = (is-not r.opened & is_eq r.sent.0 0 & as-is (all blank_request q.items) & is_eq q.len 0 & as-is (all blank_response a.items) & is_eq a.len 0).to t in
    λ i. record {
      opened = h.0.0.0.0.0 i;
      sent = record { 0 = h.0.0.0.0.1 i };
      requests = record { items = places-none request queue_length q.items k.requests (all_any q.items) h.0.0.0.1 i; len = h.0.0.1 i };
      responses = record { items = places-none response queue_length a.items k.responses (all_any a.items) h.0.1 i; len = h.1 i };
    }

-- ---- arrays of rows: the first n are in use

id-none : (x : ElectionId) → Any x → T (blank_id x) → x ≡ record { 0 = 0 }
id-none x k t = λ i. record { 0 = (is_eq x.0 0).to t i }

term-none : (x : Term) → Any x → T (blank_term x) → x ≡ record { 0 = 0 }
term-none x k t = λ i. record { 0 = (is_eq x.0 0).to t i }

module _ (n : ℕ) (few : n ≤ most_nodes) where
  controllers-same : (l : List Controller) → length l ≡ most_nodes → All SizedController l → T (all tidy_controller (take n l)) → T (all blank_controller (drop n l))
      → pack_controllers (column events_at n l) (column learned_at n l) (column says_at n l) ≡ l
  unfolding pack_controllers
  controllers-same l e k t b = let f : n ≤ length l = omega arith in
      table_same most_nodes n (controller_row (column events_at n l) (column learned_at n l) (column says_at n l)) l past_controller (pack_controller [] S.blank false) (λ r. pack_controller (events_at r) (learned_at r) (says_at r)) e
      (all_known tidy_controller controller-same (take n l) (all_take SizedController n l k) t)
      (all_known blank_controller controller-none (drop n l) (all_drop SizedController n l k) b)
      (λ i h z. pack_controller (column-at events_at n i l past_controller h z) (column-at learned_at n i l past_controller h z) (column-at says_at n i l past_controller h z))
      (λ i h z. pack_controller (column-past events_at n i l [] f h z) (column-past learned_at n i l S.blank f h z) (column-past says_at n i l false f h z))

  streams-same : (l : List Stream) (claims : Claims) → length l ≡ most_nodes → All SizedStream l → T (all tidy_stream (take n l)) → T (all blank_stream (drop n l))
      → pack_streams (hold_board n l claims) ≡ l
  unfolding pack_streams hold_board
  streams-same l claims e k t b = let f : n ≤ length l = omega arith in
      table_same most_nodes n (stream_row (hold_board n l claims)) l past_stream (pack_stream false 0 [] []) (λ r. pack_stream (open_at r) (sent_at r) (requests_at r) (responses_at r)) e
      (all_known tidy_stream stream-same (take n l) (all_take SizedStream n l k) t)
      (all_known blank_stream stream-none (drop n l) (all_drop SizedStream n l k) b)
      (λ i h z. pack_stream (column-at open_at n i l past_stream h z) (column-at sent_at n i l past_stream h z) (column-at requests_at n i l past_stream h z) (column-at responses_at n i l past_stream h z))
      (λ i h z. pack_stream (column-past open_at n i l false f h z) (column-past sent_at n i l 0 f h z) (column-past requests_at n i l [] f h z) (column-past responses_at n i l [] f h z))

  claims-same : (l : List Stream) (c : Claims) → length c.ids ≡ most_nodes → length c.terms ≡ most_nodes → T (all blank_id (drop n c.ids)) → T (all blank_term (drop n c.terms))
      → pack_claims (hold_board n l c) ≡ c
  unfolding pack_claims hold_board hold_held
  claims-same l c e e' b b' = let f : n ≤ length c.ids = omega arith in let f' : n ≤ length c.terms = omega arith in λ i. record {
    ids = table_same most_nodes n (id_row (column id_at n c.ids)) c.ids (record { 0 = 0 }) (record { 0 = 0 }) (λ x. x) e
        (all-refl (take n c.ids)) (all_known blank_id id-none (drop n c.ids) (all_any (drop n c.ids)) b)
        (λ j h z. record { 0 = column-at id_at n j c.ids (record { 0 = 0 }) h z }) (λ j h z. record { 0 = column-past id_at n j c.ids 0 f h z }) i;
    terms = table_same most_nodes n (term_row (column term_at n c.terms)) c.terms (record { 0 = 0 }) (record { 0 = 0 }) (λ x. x) e'
        (all-refl (take n c.terms)) (all_known blank_term term-none (drop n c.terms) (all_any (drop n c.terms)) b')
        (λ j h z. record { 0 = column-at term_at n j c.terms (record { 0 = 0 }) h z }) (λ j h z. record { 0 = column-past term_at n j c.terms 0 f' h z }) i;
    elected = c.elected;
    last = c.last;
  }

-- ---- the history

write_same : (e : Write) → Any e → T (any_write e) → pack_write (hold_write e) ≡ e
write_same e k t = refl

write-none : (e : Write) → Any e → T (blank_write e) → e ≡ no_write
unfolding blank_write
write-none e k t = let h = (is_eq e.node 0 & is_eq e.term.0 0).to t in λ i. record { node = h.0 i; term = record { 0 = h.1 i } }

abbrev a_write : Element S.Write Write
a_write = record {
  blank = no_write;
  rep = pack_write;
  hold = hold_write;
  Known = Any;
  tidy = any_write;
  is_blank = blank_write;
  same = write_same;
  none = write-none;
}

history-same : (h : History) → length h.items ≡ history_length → T (tidy_history h) → pack_history (hold_history h) ≡ h
unfolding pack_history hold_history tidy_history
history-same h e t = let p = places_same a_write history_length h.items e (all_any h.items) h.len t in λ i. record { items = p.items i; len = p.held i }

-- ---- the state

core-same : (s : State) → Sized s → s.count ≤ most_nodes → T (tidy_core s.count s.core) → pack_core (hold_core s.count s.core) ≡ s.core
unfolding tidy_core pack_core hold_core hold_desk
core-same s k few t =
    let n = s.count in
    let c = s.core in
    let h = (as-is (tidy_mastership c.service) & as-is (all tidy_controller (take n c.controllers)) & as-is (all blank_controller (drop n c.controllers))
    & as-is (all tidy_stream (take n c.streams)) & as-is (all blank_stream (drop n c.streams))
    & as-is (all blank_id (drop n c.claims.ids)) & as-is (all blank_term (drop n c.claims.terms))).to t in
    let w = h.0.0 in λ i. record {
      service = mastership-same c.service k.service w.0.0.0.0 i;
      controllers = controllers-same n few c.controllers k.controllers k.controller-rows w.0.0.0.1 w.0.0.1 i;
      streams = streams-same n few c.streams c.claims k.streams k.stream-rows w.0.1 w.1 i;
      claims = claims-same n few c.streams c.claims k.ids k.terms h.0.1 h.1 i;
    }

pub tidy-same : (s : State) → Sized s → state_fits s ≡ true → represent (hold s) ≡ s
unfolding state_fits represent hold
tidy-same s k e =
    let h = (as-is (tidy_core s.count s.core) & as-is (tidy_history s.history) & as-is (in_range (hold s))).to ((is-yes (state_fits s)).from e) in
    let few : s.count ≤ most_nodes = (range-sound (hold s) h.1).count.upper in λ i. record {
      count = s.count;
      running = s.running;
      core = core-same s k few h.0.0 i;
      history = history-same s.history k.history h.0.1 i;
    }
