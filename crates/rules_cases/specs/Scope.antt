-- The situations of the scope: those from a fresh state, and those at the last terms and with a full history. Assumes nothing.
use Rattle.std.specs.Prelude.{true, false, List, [], ◌∷◌, ◌++◌, ℕ, zero, suc, replicate}
use Rattle.rules.specs.State.{Mastership, State}
use Rattle.rules.specs.Parts.{service_part, on_device, tell_part, serve_part}
use Rattle.rules.specs.Step.{Event, fresh}
use Rattle.rules_cases.specs.Names.{Join, Leave, Learn, SendUpdate, ReceiveUpdate, SendWrite, Connect, Close, HandleUpdate, HandleWrite, Shutdown, mastership, asks_update, asks_write, is_master, is_not, denied, by}
use Rattle.rules_cases.specs.Situation.{Claim, history, service, events, is_open, requests, responses, id, Situation}

abbrev times : ℕ → List Event → List Event
times zero es = []
times (suc k) es = es ++ times k es

-- ---- from fresh

-- The list: a master is elected, sends its update, hears that it is master, and writes.
abbrev elected : Situation
elected = record {
  start = fresh 2;
  steps = Join 1 ∷ Learn 1 ∷ Connect 1 ∷ SendUpdate 1 ∷ HandleUpdate 1 ∷ ReceiveUpdate 1 ∷ SendWrite 1 ∷ HandleWrite 1 ∷ [];
  answers = replicate 8 0;
  ends = history (by 1 1 ∷ []) ∷ [];
}

-- Send update 2 carries id 2.
abbrev backup_asks : Situation
backup_asks = record {
  start = fresh 2;
  steps = Join 1 ∷ Join 2 ∷ Learn 2 ∷ Learn 2 ∷ Connect 2 ∷ SendUpdate 2 ∷ [];
  answers = replicate 6 0;
  ends = requests 2 (asks_update 2 1 ∷ []) ∷ [];
}

-- Join and Leave eight times with nothing learned: a ninth Join answers 7.
abbrev ninth_join : Situation
ninth_join = record {
  start = fresh 1;
  steps = times 8 (Join 1 ∷ Leave 1 ∷ []) ++ (Join 1 ∷ []);
  answers = replicate 16 0 ++ (7 ∷ []);
  ends = [];
}

abbrev connects_twice : Situation
connects_twice = record { start = fresh 2; steps = Connect 1 ∷ Connect 1 ∷ []; answers = 0 ∷ 4 ∷ []; ends = [] }

abbrev shutdown_of_node : Situation
shutdown_of_node = record { start = fresh 2; steps = Shutdown 1 ∷ []; answers = 3 ∷ []; ends = [] }

-- Node 1 holds id 4 from term 1; node 3, first backup in term 2, sends id 4: its stream closes.
abbrev collides : Situation
collides = record {
  start = fresh 3;
  steps = Join 1 ∷ Learn 1 ∷ Connect 1 ∷ SendUpdate 1 ∷ HandleUpdate 1
      ∷ Join 2 ∷ Join 3 ∷ Leave 1 ∷ times 4 (Learn 3 ∷ []) ++ (Connect 3 ∷ SendUpdate 3 ∷ HandleUpdate 3 ∷ []);
  answers = replicate 15 0;
  ends = id 1 4 ∷ is_open 3 false ∷ id 3 0 ∷ requests 3 [] ∷ responses 1 (is_master 4 ∷ []) ∷ [];
}

-- Node 2 wrote in term 2 and closes; node 1, with switch id 3 of term 1, is switch master again and writes: PermissionDenied.
abbrev old_master : Situation
old_master = record {
  start = fresh 2;
  steps = Join 1 ∷ Join 2 ∷ Learn 1 ∷ Learn 1 ∷ Connect 1 ∷ SendUpdate 1 ∷ HandleUpdate 1 ∷ ReceiveUpdate 1
      ∷ Leave 1 ∷ Learn 2 ∷ Learn 2 ∷ Learn 2 ∷ Connect 2 ∷ SendUpdate 2 ∷ HandleUpdate 2 ∷ ReceiveUpdate 2 ∷ SendWrite 2 ∷ HandleWrite 2
      ∷ Close 2 ∷ SendWrite 1 ∷ HandleWrite 1 ∷ [];
  answers = replicate 21 0;
  ends = id 1 3 ∷ history (by 2 2 ∷ []) ∷ responses 1 (is_not 4 ∷ is_master 3 ∷ denied ∷ []) ∷ [];
}

abbrev learns_then_joins : Situation
learns_then_joins = record { start = fresh 2; steps = Learn 1 ∷ Join 2 ∷ []; answers = 4 ∷ 0 ∷ []; ends = [] }

abbrev joins_then_learns : Situation
joins_then_learns = record { start = fresh 2; steps = Join 2 ∷ Learn 1 ∷ []; answers = 0 ∷ 0 ∷ []; ends = [] }

-- ---- the last terms: two nodes, no master, and the events that wait for each

abbrev masterless : ℕ → List Mastership → List Mastership → State
masterless t q q' = service_part.put (record { service = mastership t 0 []; events = q ∷ q' ∷ [] }) (fresh 2)

abbrev full_queue : List Mastership
full_queue = replicate 8 (mastership 1 1 [])

abbrev joins_at : ℕ → List Mastership → List Mastership → ℕ → List Claim → Situation
joins_at t q q' answer ends = record { start = masterless t q q'; steps = Join 1 ∷ []; answers = answer ∷ []; ends = ends }

-- ---- a full history: node 1 holds id 3 of term 1 and asks for a write by the id given

abbrev writes_as : ℕ → ℕ → List Claim → Situation
writes_as i answer ends = record {
  start = (on_device (serve_part 1)).put (record { requests = asks_write i 1 ∷ []; responses = []; last = 1; accepted = replicate 1024 (by 1 1) })
      ((on_device (tell_part 1)).put (record { is_open = true; sent = 1; requests = []; responses = [] ∷ [] ∷ []; id = 3; term = 1 }) (fresh 2));
  steps = HandleWrite 1 ∷ [];
  answers = answer ∷ [];
  ends = history (replicate 1024 (by 1 1)) ∷ ends;
}

-- ---- all

abbrev pub scope : List Situation
scope =
    elected ∷ backup_asks ∷ ninth_join ∷ connects_twice ∷ shutdown_of_node ∷ collides ∷ old_master ∷ learns_then_joins ∷ joins_then_learns
    -- term 10,000: 5, even with full queues
    ∷ joins_at 10000 [] [] 5 []
    ∷ joins_at 10000 full_queue full_queue 5 []
    -- term 9,999: done, if no event queue is full
    ∷ joins_at 9999 [] [] 0 (service (mastership 10000 1 []) ∷ events 2 (mastership 10000 1 [] ∷ []) ∷ [])
    ∷ joins_at 9999 [] full_queue 7 []
    -- 1,024 writes held: one that would be denied is still denied, one that would be accepted is 6
    ∷ writes_as 4 0 (responses 1 (denied ∷ []) ∷ [])
    ∷ writes_as 3 6 (requests 1 (asks_write 3 1 ∷ []) ∷ [])
    ∷ []
