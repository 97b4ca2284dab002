-- What each class of steps reads, taken from the structs that hold it.
use Rattle.std.specs.Prelude.{Bool, List, [], ℕ, ◌-◌, get_or}
use Rattle.rules.specs.Part.{Out, refuse, done}
use Rattle.rules.specs.Parts.{Inbox, Sender, Receiver, Linked, Told, Served, Power}
use Rattle.step_parts.specs.Hold.{hold_mastership, hold_events, hold_requests, hold_responses}
use Rattle.step_state.specs.Hold.{hold_board}
use Rattle.step_state.specs.declared.Controller.{Controller}
use Rattle.step_state.specs.declared.Stream.{Stream}
use Rattle.step_state.specs.declared.Claims.{Claims}

-- The answer of what a rule says.
abbrev pub answer_of : {W : Type 0} → Out ℕ W → ℕ
answer_of (refuse a) = a
answer_of (done a w) = a

abbrev pub inbox_of : Controller → Inbox
inbox_of r = record { events = hold_events r.events; learned = hold_mastership r.learned }

abbrev pub sender_of : ℕ → Controller → Stream → Sender
sender_of count r s = record {
  count = count;
  learned = hold_mastership r.learned;
  says = r.says;
  is_open = s.opened;
  sent = s.sent.0;
  requests = hold_requests s.requests;
}

abbrev pub receiver_of : ℕ → Controller → Stream → Receiver
receiver_of count r s = record {
  count = count;
  learned = hold_mastership r.learned;
  says = r.says;
  is_open = s.opened;
  sent = s.sent.0;
  responses = hold_responses s.responses;
}

abbrev pub linked_of : Bool → Stream → Linked
linked_of running s = record { running = running; is_open = s.opened }

-- Of all streams, the columns; of node n, its own row.
abbrev pub told_of : ℕ → ℕ → Bool → List Stream → Claims → Told
told_of count n running streams claims = let w = hold_board count streams claims in record {
  running = running;
  opens = w.opens;
  sent = get_or w.sent (n - 1) 0;
  requests = get_or w.requests (n - 1) [];
  responses = w.responses;
  held = w.held;
  term = get_or w.terms (n - 1) 0;
}

abbrev pub served_of : ℕ → Bool → Stream → Claims → ℕ → Served
served_of n running s claims writes = record {
  running = running;
  is_open = s.opened;
  requests = hold_requests s.requests;
  responses = hold_responses s.responses;
  id = (get_or claims.ids (n - 1) (record { 0 = 0 })).0;
  master = claims.elected.master;
  term = (get_or claims.terms (n - 1) (record { 0 = 0 })).0;
  last = claims.last.0;
  writes = writes;
}

abbrev pub power_of : ℕ → Bool → List Stream → Claims → Power
power_of count running streams claims = record { running = running; board = hold_board count streams claims }
