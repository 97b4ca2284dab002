-- The thirteen rules, in order. Each sees what its class reads: it says when the step is allowed, what room it asks for, and what it writes.
use Rattle.std.specs.Prelude.{Bool, true, false, not, cond, ◌&&◌, ◌||◌, List, [], ◌∷◌, map, ℕ, ◌+◌, ◌-◌, get_or, set, leb, ltb, eqb}
use Rattle.rules.specs.Limits.{top_term, history_length}
use Rattle.rules.specs.State.{Mastership, Message, update, write, Status, ok, already_exists, not_found, permission_denied, Request, Response, Desk, Held, Board, blank}
use Rattle.rules.specs.Queues.{push, first, rest, empty, room, room_all, remove}
use Rattle.rules.specs.Ids.{election_id, term_of, named, id_for}
use Rattle.rules.specs.Part.{Rule, always}
use Rattle.rules.specs.Parts.{Inbox, Sender, Sent, Receiver, Received, Linked, Told, Telling, Served, Serving, Power, Class, service, learn, send, receive, link, tell, serve, power, Reads, Writes}
use Rattle.rules.specs.Election.{elected, holding, taken, news, tell_all, room_open}

-- ---- the service: 1, 2

-- The mastership becomes the service's, and goes last in every event queue.
unfoldable pub posted : Mastership → Desk → Desk
posted m d = record { service = m; events = map (push m) d.events }

-- The mastership becomes the service's, and nobody hears of it.
unfoldable pub unposted : Mastership → Desk → Desk
unposted m d = record { service = m; events = d.events }

unfoldable pub vacant : Mastership → Bool
vacant m = eqb m.master 0

-- The mastership after n joined it.
unfoldable pub joined : ℕ → Mastership → Mastership
joined n m =
    cond (vacant m)
    (record { term = m.term + 1; master = n; backups = [] })
    (record { term = m.term; master = m.master; backups = push n m.backups })

-- 1 Join.
unfoldable pub join_rule : ℕ → Rule Desk Desk
join_rule n = record {
  allowed = λ d. vacant d.service || not (named n d.service);
  term_left = λ d. not (vacant d.service) || ltb d.service.term top_term;
  history_left = always;
  queues_left = λ d. room_all d.events;
  effect = λ d. posted (joined n d.service) d;
}

-- The first backup takes over when n leaves.
unfoldable pub hands_over : ℕ → Mastership → Bool
hands_over n m = eqb m.master n && not (empty m.backups)

-- The mastership after n left it.
unfoldable pub left : ℕ → Mastership → Mastership
left n m =
    cond (hands_over n m)
    (record { term = m.term + 1; master = first 0 m.backups; backups = rest m.backups })
    (cond (eqb m.master n)
    (record { term = m.term; master = 0; backups = [] })
    (record { term = m.term; master = m.master; backups = remove n m.backups }))

-- 2 Leave. A new term begins, and is posted, only where a backup takes over.
unfoldable pub leave_rule : ℕ → Rule Desk Desk
leave_rule n = record {
  allowed = λ d. named n d.service;
  term_left = λ d. not (hands_over n d.service) || ltb d.service.term top_term;
  history_left = always;
  queues_left = λ d. not (hands_over n d.service) || room_all d.events;
  effect = λ d. let m = left n d.service in cond (hands_over n d.service) (posted m d) (unposted m d);
}

-- ---- a node: 3 to 7

-- 3 Learn.
unfoldable pub learn_rule : Rule Inbox Inbox
learn_rule = record {
  allowed = λ v. not (empty v.events) && leb v.learned.term (first blank v.events).term;
  term_left = always;
  history_left = always;
  queues_left = always;
  effect = λ v. record { events = rest v.events; learned = first blank v.events };
}

-- 4 Send update.
unfoldable pub send_update_rule : ℕ → Rule Sender Sent
send_update_rule n = record {
  allowed = λ v. let t = v.learned.term in v.is_open && ltb 0 t && ltb v.sent t && named n v.learned;
  term_left = always;
  history_left = always;
  queues_left = λ v. room v.requests;
  effect = λ v. let t = v.learned.term in record {
    sent = t;
    requests = push (record { message = update; id = id_for v.count n v.learned; term = t }) v.requests;
  };
}

unfoldable pub is_update : Message → Bool
is_update update = true
is_update write = false

unfoldable pub is_write : Message → Bool
is_write update = false
is_write write = true

unfoldable pub is_ok : Status → Bool
is_ok ok = true
is_ok already_exists = false
is_ok not_found = false
is_ok permission_denied = false

-- What stands for a head where a queue has none: no rule that allows its step looks at it.
abbrev pub no_request : Request
no_request = record { message = update; id = 0; term = 0 }

abbrev pub no_response : Response
no_response = record { message = update; status = ok; id = 0 }

-- The response says that n is the master of the term that it learned and sent.
unfoldable pub confirms : ℕ → Receiver → Response → Bool
confirms n v r =
    is_ok r.status && eqb v.learned.master n
    && eqb (term_of v.count r.id) v.learned.term && eqb v.sent v.learned.term

-- 5 Receive update.
unfoldable pub receive_update_rule : ℕ → Rule Receiver Received
receive_update_rule n = record {
  allowed = λ v. v.is_open && not (empty v.responses) && is_update (first no_response v.responses).message;
  term_left = always;
  history_left = always;
  queues_left = always;
  effect = λ v. record { says = confirms n v (first no_response v.responses); responses = rest v.responses };
}

-- 6 Send write.
unfoldable pub send_write_rule : ℕ → Rule Sender Sent
send_write_rule n = record {
  allowed = λ v. v.is_open && ltb 0 v.learned.term && eqb v.learned.master n && v.says;
  term_left = always;
  history_left = always;
  queues_left = λ v. room v.requests;
  effect = λ v. let t = v.learned.term in record {
    sent = v.sent;
    requests = push (record { message = write; id = election_id v.count t 0; term = t }) v.requests;
  };
}

-- 7 Receive write.
unfoldable pub receive_write_rule : Rule Receiver Received
receive_write_rule = record {
  allowed = λ v. v.is_open && not (empty v.responses) && is_write (first no_response v.responses).message;
  term_left = always;
  history_left = always;
  queues_left = always;
  effect = λ v. record { says = v.says; responses = rest v.responses };
}

-- ---- the switch: 8 to 13

-- 8 Connect.
unfoldable pub connect_rule : Rule Linked Bool
connect_rule = record {
  allowed = λ v. v.running && not v.is_open;
  term_left = always;
  history_left = always;
  queues_left = always;
  effect = λ v. true;
}

-- Closing n's stream: the columns without it, and whether the switch's master changes.
unfoldable pub held_left : ℕ → Told → Held
held_left n v = holding n 0 v.held

unfoldable pub opens_left : ℕ → Told → List Bool
opens_left n v = set v.opens (n - 1) false

unfoldable pub responses_left : ℕ → Told → List (List Response)
responses_left n v = set v.responses (n - 1) []

unfoldable pub changes : Held → Held → Bool
changes h h' = not (eqb h.master h'.master)

unfoldable pub close_room : ℕ → Told → Bool
close_room n v = not (changes v.held (held_left n v)) || room_open (opens_left n v) (responses_left n v)

unfoldable pub closed : ℕ → Told → Telling
closed n v = record {
  is_open = false;
  sent = 0;
  requests = [];
  responses = cond (changes v.held (held_left n v)) (tell_all (news (held_left n v)) (opens_left n v) (responses_left n v)) (responses_left n v);
  id = 0;
  term = 0;
}

-- 9 Close.
unfoldable pub close_rule : ℕ → Rule Told Telling
close_rule n = record {
  allowed = λ v. get_or v.opens (n - 1) false;
  term_left = always;
  history_left = always;
  queues_left = close_room n;
  effect = closed n;
}

-- The update at the head of n's requests, and what is held with its id taken.
abbrev pub asked : Told → Request
asked v = first no_request v.requests

unfoldable pub held_with : ℕ → Told → Held
held_with n v = holding n (asked v).id v.held

-- Where the master stays, only n is told.
unfoldable pub update_room : ℕ → Told → Bool
update_room n v = cond (changes v.held (held_with n v)) (room_open v.opens v.responses) (room (get_or v.responses (n - 1) []))

unfoldable pub updated : ℕ → Told → Telling
updated n v = record {
  is_open = true;
  sent = v.sent;
  requests = rest v.requests;
  responses =
      cond (changes v.held (held_with n v))
      (tell_all (news (held_with n v)) v.opens v.responses)
      (set v.responses (n - 1) (push (news (held_with n v) n) (get_or v.responses (n - 1) [])));
  id = (asked v).id;
  term = (asked v).term;
}

-- 10 Handle update. An id that another node holds closes the stream.
unfoldable pub handle_update_rule : ℕ → Rule Told Telling
handle_update_rule n = record {
  allowed = λ v. v.running && get_or v.opens (n - 1) false && not (empty v.requests) && is_update (asked v).message;
  term_left = always;
  history_left = always;
  queues_left = λ v. cond (taken n (asked v).id v.held.ids) (close_room n v) (update_room n v);
  effect = λ v. cond (taken n (asked v).id v.held.ids) (closed n v) (updated n v);
}

-- The switch accepts the write at the head of n's requests.
unfoldable pub accepts : ℕ → Served → Bool
accepts n v =
    eqb v.id (first no_request v.requests).id
    && eqb v.master n && leb v.last v.term

abbrev pub write_answer : Status → Response
write_answer s = record { message = write; status = s; id = 0 }

-- 11 Handle write.
unfoldable pub handle_write_rule : ℕ → Rule Served Serving
handle_write_rule n = record {
  allowed = λ v. v.running && v.is_open && not (empty v.requests) && is_write (first no_request v.requests).message;
  term_left = always;
  history_left = λ v. not (accepts n v) || ltb v.writes history_length;
  queues_left = λ v. room v.responses;
  effect = λ v. record {
    requests = rest v.requests;
    responses = push (write_answer (cond (accepts n v) ok permission_denied)) v.responses;
    last = cond (accepts n v) v.term v.last;
    accepted = cond (accepts n v) (record { node = n; term = (first no_request v.requests).term } ∷ []) [];
  };
}

-- Every stream closed, with nobody told.
unfoldable pub cleared : Board → Board
cleared b = record {
  opens = map (λ o. false) b.opens;
  sent = map (λ t. 0) b.sent;
  requests = map (λ q. []) b.requests;
  responses = map (λ q. []) b.responses;
  held = elected (map (λ i. 0) b.held.ids);
  terms = map (λ t. 0) b.terms;
  last = b.last;
}

-- 12 Shutdown.
unfoldable pub shutdown_rule : Rule Power Power
shutdown_rule = record {
  allowed = λ v. v.running;
  term_left = always;
  history_left = always;
  queues_left = always;
  effect = λ v. record { running = false; board = cleared v.board };
}

-- 13 Startup.
unfoldable pub startup_rule : Rule Power Power
startup_rule = record {
  allowed = λ v. not v.running;
  term_left = always;
  history_left = always;
  queues_left = always;
  effect = λ v. record { running = true; board = v.board };
}

-- ---- the kinds

pub data Kind : Type 0 where
  join leave learns send_update receive_update send_write receive_write connect close handle_update handle_write shutdown startup : Kind

abbrev pub class_of : Kind → Class
class_of join = service
class_of leave = service
class_of learns = learn
class_of send_update = send
class_of receive_update = receive
class_of send_write = send
class_of receive_write = receive
class_of connect = link
class_of close = tell
class_of handle_update = tell
class_of handle_write = serve
class_of shutdown = power
class_of startup = power

abbrev pub rule : (k : Kind) → ℕ → Rule (Reads (class_of k)) (Writes (class_of k))
rule join n = join_rule n
rule leave n = leave_rule n
rule learns n = learn_rule
rule send_update n = send_update_rule n
rule receive_update n = receive_update_rule n
rule send_write n = send_write_rule n
rule receive_write n = receive_write_rule
rule connect n = connect_rule
rule close n = close_rule n
rule handle_update n = handle_update_rule n
rule handle_write n = handle_write_rule n
rule shutdown n = shutdown_rule
rule startup n = startup_rule
