-- What each class of steps reads of the state, and what it writes. Node n stands at place n - 1 of a column.
use Rattle.std.specs.Prelude.{Bool, false, List, [], ◌++◌, ℕ, ◌-◌, length, get_or, set}
use Rattle.rules.specs.Part.{Part}
use Rattle.rules.specs.State.{Mastership, Request, Response, Write, Desk, Held, Board, Core, State, blank}
use Rattle.rules.specs.Election.{holding}

abbrev pub with_core : Core → State → State
with_core c s = record { count = s.count; running = s.running; history = s.history; core = c }

abbrev pub with_board : Board → Core → Core
with_board b c = record { desk = c.desk; learned = c.learned; says = c.says; board = b }

-- 1, 2: the service and all event queues.
abbrev pub service_part : Part State Desk Desk
service_part = record {
  get = λ s. s.core.desk;
  put = λ d s. with_core (record { desk = d; learned = s.core.learned; says = s.core.says; board = s.core.board }) s;
}

-- 3: node n's event queue and learned mastership.
pub record Inbox : Type 0 where
  pub events : List Mastership
  pub learned : Mastership

abbrev pub learn_part : ℕ → Part State Inbox Inbox
learn_part n = record {
  get = λ s. record { events = get_or s.core.desk.events (n - 1) []; learned = get_or s.core.learned (n - 1) blank };
  put = λ v s. with_core (record {
    desk = record { service = s.core.desk.service; events = set s.core.desk.events (n - 1) v.events };
    learned = set s.core.learned (n - 1) v.learned;
    says = s.core.says;
    board = s.core.board;
  }) s;
}

-- 4, 6: reads N, what node n knows, and the sending side of its stream; writes the term last sent and the requests.
pub record Sender : Type 0 where
  pub count : ℕ
  pub learned : Mastership
  pub says : Bool
  pub is_open : Bool
  pub sent : ℕ
  pub requests : List Request

pub record Sent : Type 0 where
  pub sent : ℕ
  pub requests : List Request

abbrev pub send_part : ℕ → Part State Sender Sent
send_part n = record {
  get = λ s. let b = s.core.board in record {
    count = s.count;
    learned = get_or s.core.learned (n - 1) blank;
    says = get_or s.core.says (n - 1) false;
    is_open = get_or b.opens (n - 1) false;
    sent = get_or b.sent (n - 1) 0;
    requests = get_or b.requests (n - 1) [];
  };
  put = λ v s. let b = s.core.board in with_core (with_board (record {
    opens = b.opens;
    sent = set b.sent (n - 1) v.sent;
    requests = set b.requests (n - 1) v.requests;
    responses = b.responses;
    held = b.held;
    terms = b.terms;
    last = b.last;
  }) s.core) s;
}

-- 5, 7: reads N, what node n knows, and the receiving side of its stream; writes the flag and the responses.
pub record Receiver : Type 0 where
  pub count : ℕ
  pub learned : Mastership
  pub says : Bool
  pub is_open : Bool
  pub sent : ℕ
  pub responses : List Response

pub record Received : Type 0 where
  pub says : Bool
  pub responses : List Response

abbrev pub receive_part : ℕ → Part State Receiver Received
receive_part n = record {
  get = λ s. let b = s.core.board in record {
    count = s.count;
    learned = get_or s.core.learned (n - 1) blank;
    says = get_or s.core.says (n - 1) false;
    is_open = get_or b.opens (n - 1) false;
    sent = get_or b.sent (n - 1) 0;
    responses = get_or b.responses (n - 1) [];
  };
  put = λ v s. let b = s.core.board in with_core (record {
    desk = s.core.desk;
    learned = s.core.learned;
    says = set s.core.says (n - 1) v.says;
    board = record {
      opens = b.opens;
      sent = b.sent;
      requests = b.requests;
      responses = set b.responses (n - 1) v.responses;
      held = b.held;
      terms = b.terms;
      last = b.last;
    };
  }) s;
}

-- ---- the switch's side: whether it runs, the history, the board

pub record Device : Type 0 where
  pub running : Bool
  pub history : List Write
  pub board : Board

abbrev pub device_of : State → Device
device_of s = record { running = s.running; history = s.history; board = s.core.board }

-- A part of the device is a part of the state.
abbrev pub on_device : {R W : Type 0} → Part Device R W → Part State R W
on_device p = record {
  get = λ s. p.get (device_of s);
  put = λ v s. let d = p.put v (device_of s) in
      record { count = s.count; running = d.running; history = d.history; core = with_board d.board s.core };
}

-- 8: reads whether the switch runs and whether stream n is open; writes the latter.
pub record Linked : Type 0 where
  pub running : Bool
  pub is_open : Bool

abbrev pub link_part : ℕ → Part Device Linked Bool
link_part n = record {
  get = λ d. record { running = d.running; is_open = get_or d.board.opens (n - 1) false };
  put = λ v d. let b = d.board in record {
    running = d.running;
    history = d.history;
    board = record {
      opens = set b.opens (n - 1) v;
      sent = b.sent;
      requests = b.requests;
      responses = b.responses;
      held = b.held;
      terms = b.terms;
      last = b.last;
    };
  };
}

-- 9, 10: reads who is open, all responses and all ids with what they give, and of node n the rest of its stream and its switch term;
-- writes all responses, and of node n everything.
pub record Told : Type 0 where
  pub running : Bool
  pub opens : List Bool
  pub sent : ℕ
  pub requests : List Request
  pub responses : List (List Response)
  pub held : Held
  pub term : ℕ

pub record Telling : Type 0 where
  pub is_open : Bool
  pub sent : ℕ
  pub requests : List Request
  pub responses : List (List Response)
  pub id : ℕ
  pub term : ℕ

abbrev pub tell_part : ℕ → Part Device Told Telling
tell_part n = record {
  get = λ d. let b = d.board in record {
    running = d.running;
    opens = b.opens;
    sent = get_or b.sent (n - 1) 0;
    requests = get_or b.requests (n - 1) [];
    responses = b.responses;
    held = b.held;
    term = get_or b.terms (n - 1) 0;
  };
  put = λ v d. let b = d.board in record {
    running = d.running;
    history = d.history;
    board = record {
      opens = set b.opens (n - 1) v.is_open;
      sent = set b.sent (n - 1) v.sent;
      requests = set b.requests (n - 1) v.requests;
      responses = v.responses;
      held = holding n v.id b.held;
      terms = set b.terms (n - 1) v.term;
      last = b.last;
    };
  };
}

-- 11: reads stream n's queues, n's id and term on the switch, its master, the last accepted term and how many writes the history holds;
-- writes the queues and the last accepted term, and appends to the history.
pub record Served : Type 0 where
  pub running : Bool
  pub is_open : Bool
  pub requests : List Request
  pub responses : List Response
  pub id : ℕ
  pub master : ℕ
  pub term : ℕ
  pub last : ℕ
  pub writes : ℕ

pub record Serving : Type 0 where
  pub requests : List Request
  pub responses : List Response
  pub last : ℕ
  pub accepted : List Write

abbrev pub serve_part : ℕ → Part Device Served Serving
serve_part n = record {
  get = λ d. let b = d.board in record {
    running = d.running;
    is_open = get_or b.opens (n - 1) false;
    requests = get_or b.requests (n - 1) [];
    responses = get_or b.responses (n - 1) [];
    id = get_or b.held.ids (n - 1) 0;
    master = b.held.master;
    term = get_or b.terms (n - 1) 0;
    last = b.last;
    writes = length d.history;
  };
  put = λ v d. let b = d.board in record {
    running = d.running;
    history = d.history ++ v.accepted;
    board = record {
      opens = b.opens;
      sent = b.sent;
      requests = set b.requests (n - 1) v.requests;
      responses = set b.responses (n - 1) v.responses;
      held = b.held;
      terms = b.terms;
      last = v.last;
    };
  };
}

-- 12, 13: whether the switch runs, and the board.
pub record Power : Type 0 where
  pub running : Bool
  pub board : Board

abbrev pub power_part : Part Device Power Power
power_part = record {
  get = λ d. record { running = d.running; board = d.board };
  put = λ v d. record { running = v.running; history = d.history; board = v.board };
}

-- ---- the classes of steps, and the part of each

pub data Class : Type 0 where
  service learn send receive link tell serve power : Class

abbrev pub Reads : Class → Type 0
Reads service = Desk
Reads learn = Inbox
Reads send = Sender
Reads receive = Receiver
Reads link = Linked
Reads tell = Told
Reads serve = Served
Reads power = Power

abbrev pub Writes : Class → Type 0
Writes service = Desk
Writes learn = Inbox
Writes send = Sent
Writes receive = Received
Writes link = Bool
Writes tell = Telling
Writes serve = Serving
Writes power = Power

abbrev pub part : (c : Class) → ℕ → Part State (Reads c) (Writes c)
part service n = service_part
part learn n = learn_part n
part send n = send_part n
part receive n = receive_part n
part link n = on_device (link_part n)
part tell n = on_device (tell_part n)
part serve n = on_device (serve_part n)
part power n = on_device power_part
