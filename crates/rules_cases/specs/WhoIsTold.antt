-- Situations of telling: what each stream hears when a stream closes or an update is handled, and what is kept. Assumes nothing.
use Rattle.std.specs.Prelude.{true, false, List, [], ◌∷◌, ◌++◌, ℕ, replicate}
use Rattle.rules.specs.State.{Response, State}
use Rattle.rules.specs.Parts.{on_device, link_part, tell_part, serve_part}
use Rattle.rules.specs.Step.{Event, fresh}
use Rattle.rules_cases.specs.Names.{Join, Learn, SendUpdate, ReceiveUpdate, SendWrite, Connect, Close, HandleUpdate, Shutdown, Startup, asks_update, is_master, is_not, is_none, by}
use Rattle.rules_cases.specs.Situation.{Claim, history, last, master, largest, says, is_open, requests, responses, id, Situation}

-- Three open streams: the ids of nodes 1 and 3, the id that node 3 asks for, and the responses of nodes 2 and 3.
abbrev streams : ℕ → ℕ → ℕ → List Response → List Response → State
streams i k asked q r =
    (on_device (tell_part 3)).put (record { is_open = true; sent = 1; requests = asks_update asked 1 ∷ []; responses = [] ∷ q ∷ r ∷ []; id = k; term = 1 })
    ((on_device (link_part 2)).put true
    ((on_device (tell_part 1)).put (record { is_open = true; sent = 1; requests = []; responses = [] ∷ [] ∷ [] ∷ []; id = i; term = 1 }) (fresh 3)))

-- What a step of node 3 tells each of the three.
abbrev tells : Event → ℕ → ℕ → ℕ → List Response → List Response → List Response → List Claim → Situation
tells e i k asked a b c ends = record {
  start = streams i k asked [] [];
  steps = e ∷ [];
  answers = 0 ∷ [];
  ends = responses 1 a ∷ responses 2 b ∷ responses 3 c ∷ ends;
}

-- With the responses of node 2 full, or those of node 3.
abbrev full : List Response
full = replicate 8 (is_not 5)

abbrev other_full : Event → ℕ → ℕ → ℕ → ℕ → Situation
other_full e i k asked answer = record { start = streams i k asked full []; steps = e ∷ []; answers = answer ∷ []; ends = [] }

abbrev own_full : Event → ℕ → ℕ → ℕ → ℕ → Situation
own_full e i k asked answer = record { start = streams i k asked [] full; steps = e ∷ []; answers = answer ∷ []; ends = [] }

-- Node 3's stream has nothing left.
abbrev gone : List Claim
gone = is_open 3 false ∷ id 3 0 ∷ requests 3 [] ∷ []

-- From fresh: node 1 has heard that it is master and comes back without an id; node 2, the only one with an id, closes.
abbrev last_id_leaves : Situation
last_id_leaves = record {
  start = fresh 2;
  steps = Join 1 ∷ Join 2 ∷ Learn 1 ∷ Connect 1 ∷ SendUpdate 1 ∷ HandleUpdate 1 ∷ ReceiveUpdate 1 ∷ Close 1
      ∷ Learn 2 ∷ Learn 2 ∷ Connect 2 ∷ SendUpdate 2 ∷ HandleUpdate 2 ∷ Connect 1 ∷ Close 2 ∷ [];
  answers = replicate 15 0;
  ends = says 1 true ∷ responses 1 (is_none 0 ∷ []) ∷ [];
}

-- Node 1 hears it: its flag goes off, and it may not write.
abbrev hears_of_nobody : Situation
hears_of_nobody = record {
  start = fresh 2;
  steps = last_id_leaves.steps ++ (ReceiveUpdate 1 ∷ SendWrite 1 ∷ []);
  answers = last_id_leaves.answers ++ (0 ∷ 4 ∷ []);
  ends = says 1 false ∷ responses 1 [] ∷ [];
}

-- The last accepted term and the history outlive the streams.
abbrev restarted : Situation
restarted = record {
  start = (on_device (serve_part 1)).put (record { requests = []; responses = []; last = 4; accepted = by 1 4 ∷ [] })
      ((on_device (tell_part 1)).put (record { is_open = true; sent = 4; requests = []; responses = [] ∷ [] ∷ []; id = 6; term = 4 }) (fresh 2));
  steps = Shutdown 0 ∷ Connect 1 ∷ Startup 0 ∷ [];
  answers = 0 ∷ 4 ∷ 0 ∷ [];
  ends = last 4 ∷ history (by 1 4 ∷ []) ∷ is_open 1 false ∷ id 1 0 ∷ master 0 ∷ largest 0 ∷ [];
}

-- What the switch then keeps.
abbrev keeps : ℕ → ℕ → List Claim
keeps m i = master m ∷ largest i ∷ []

abbrev pub who_is_told : List Situation
who_is_told =
    -- 10: where the master stays, only node 3 is told, with the largest id
    tells (HandleUpdate 3) 5 0 3 [] [] (is_not 5 ∷ []) (id 3 3 ∷ keeps 1 5)
    ∷ tells (HandleUpdate 3) 3 5 4 [] [] (is_master 4 ∷ []) (id 3 4 ∷ keeps 3 4)
    ∷ tells (HandleUpdate 3) 3 5 5 [] [] (is_master 5 ∷ []) (id 3 5 ∷ keeps 3 5)
    -- 10: where the master changes, all are told
    ∷ tells (HandleUpdate 3) 5 0 7 (is_not 7 ∷ []) (is_not 7 ∷ []) (is_master 7 ∷ []) (id 3 7 ∷ keeps 3 7)
    ∷ tells (HandleUpdate 3) 4 5 3 (is_master 4 ∷ []) (is_not 4 ∷ []) (is_not 4 ∷ []) (id 3 3 ∷ keeps 1 4)
    -- 10: an id that another holds closes the stream, and its id leaves the election
    ∷ tells (HandleUpdate 3) 3 5 3 (is_master 3 ∷ []) (is_not 3 ∷ []) [] (gone ++ keeps 1 3)
    -- 9: the others are told where the master changes, with the largest id left; nobody is master where no id is left
    ∷ tells (Close 3) 3 5 4 (is_master 3 ∷ []) (is_not 3 ∷ []) [] (gone ++ keeps 1 3)
    ∷ tells (Close 3) 0 5 4 (is_none 0 ∷ []) (is_none 0 ∷ []) [] (gone ++ keeps 0 0)
    ∷ last_id_leaves
    ∷ hears_of_nobody
    ∷ tells (Close 3) 5 3 4 [] [] [] (gone ++ keeps 1 5)
    -- 7: one full stream that would be told stops the step
    ∷ other_full (Close 3) 3 5 4 7
    ∷ other_full (Close 3) 5 3 4 0
    ∷ other_full (HandleUpdate 3) 5 0 7 7
    ∷ other_full (HandleUpdate 3) 5 0 3 0
    -- 7: node 3 is told of its own update, and not of its own closing
    ∷ own_full (HandleUpdate 3) 5 0 3 7
    ∷ own_full (HandleUpdate 3) 3 5 3 0
    ∷ own_full (Close 3) 3 5 4 0
    -- 12: nobody is told
    ∷ other_full (Shutdown 0) 3 5 4 0
    ∷ restarted
    ∷ []
