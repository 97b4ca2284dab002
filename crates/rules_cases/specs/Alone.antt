-- Situations at made-up states, where one clause of a rule decides alone. No run from fresh reaches most of these states. Assumes nothing.
use Rattle.std.specs.Prelude.{Bool, true, false, not, List, [], ◌∷◌, ℕ, replicate}
use Rattle.rules.specs.State.{Mastership, Request, Response}
use Rattle.rules.specs.Parts.{service_part, learn_part, send_part, receive_part, on_device, link_part, tell_part, serve_part}
use Rattle.rules.specs.Step.{Event, fresh}
use Rattle.rules_cases.specs.Names.{Join, Leave, Learn, SendUpdate, ReceiveUpdate, SendWrite, HandleWrite, mastership, asks_update, asks_write, is_master, is_not, is_none, accepted, denied, by}
use Rattle.rules_cases.specs.Situation.{Claim, history, last, learned, says, responses, Situation}

-- 1, 2: the service, and what waits for node 2.
abbrev serves : Mastership → List Mastership → Event → ℕ → Situation
serves m q e answer = record {
  start = service_part.put (record { service = m; events = [] ∷ q ∷ [] }) (fresh 2);
  steps = e ∷ [];
  answers = answer ∷ [];
  ends = [];
}

-- 3 Learn: the learned mastership, the event that waits, the answer, and what is then learned.
abbrev learns : Mastership → Mastership → ℕ → Mastership → Situation
learns m e answer m' = record {
  start = (learn_part 1).put (record { events = e ∷ []; learned = m }) (fresh 2);
  steps = Learn 1 ∷ [];
  answers = answer ∷ [];
  ends = learned 1 m' ∷ [];
}

-- 4, 6: the learned mastership and the requests of an open stream, with the flag on.
abbrev sends : Mastership → List Request → Event → ℕ → Situation
sends m q e answer = record {
  start = (receive_part 1).put (record { says = true; responses = [] })
      ((send_part 1).put (record { sent = 0; requests = q })
      ((on_device (link_part 1)).put true
      ((learn_part 1).put (record { events = []; learned = m }) (fresh 2))));
  steps = e ∷ [];
  answers = answer ∷ [];
  ends = [];
}

-- 5 Receive update: the learned mastership, the stream's term, the response, and the flag then, which was the other one.
abbrev hears : Mastership → ℕ → Response → Bool → Situation
hears m t r flag = record {
  start = (receive_part 1).put (record { says = not flag; responses = r ∷ [] })
      ((send_part 1).put (record { sent = t; requests = [] })
      ((on_device (link_part 1)).put true
      ((learn_part 1).put (record { events = []; learned = m }) (fresh 2))));
  steps = ReceiveUpdate 1 ∷ [];
  answers = 0 ∷ [];
  ends = says 1 flag ∷ responses 1 [] ∷ [];
}

-- 11 Handle write, by id 3: the write's term, the switch's term, the last accepted term, node 2's id, and the responses that wait.
abbrev writes : ℕ → ℕ → ℕ → ℕ → List Response → ℕ → List Claim → Situation
writes t u l i q answer ends = record {
  start = (on_device (serve_part 1)).put (record { requests = asks_write 3 t ∷ []; responses = q; last = l; accepted = [] })
      ((on_device (tell_part 1)).put (record { is_open = true; sent = 1; requests = []; responses = [] ∷ [] ∷ []; id = 3; term = u })
      ((on_device (tell_part 2)).put (record { is_open = true; sent = 1; requests = []; responses = [] ∷ [] ∷ []; id = i; term = 1 }) (fresh 2)));
  steps = HandleWrite 1 ∷ [];
  answers = answer ∷ [];
  ends = ends;
}

abbrev pub alone : List Situation
alone =
    -- 1, 2: at term 10,000 only a new term is refused; and only what is posted needs room
    serves (mastership 10000 1 []) [] (Join 2) 0
    ∷ serves (mastership 10000 1 (2 ∷ [])) [] (Leave 1) 5
    ∷ serves (mastership 10000 1 []) [] (Leave 1) 0
    ∷ serves (mastership 1 1 (2 ∷ [])) (replicate 8 (mastership 1 1 [])) (Leave 1) 7
    ∷ serves (mastership 1 1 (2 ∷ [])) (replicate 8 (mastership 1 1 [])) (Leave 2) 0
    -- 3: an event of an older term is not learned, one of the same term is
    ∷ learns (mastership 5 1 []) (mastership 4 2 []) 4 (mastership 5 1 [])
    ∷ learns (mastership 5 1 []) (mastership 5 2 []) 0 (mastership 5 2 [])
    -- 4, 6: an update is sent by whom the mastership names, a write by its master; both need room
    ∷ sends (mastership 1 2 (1 ∷ [])) [] (SendUpdate 1) 0
    ∷ sends (mastership 1 2 []) [] (SendUpdate 1) 4
    ∷ sends (mastership 1 2 (1 ∷ [])) [] (SendWrite 1) 4
    ∷ sends (mastership 1 1 []) [] (SendWrite 1) 0
    ∷ sends (mastership 1 1 []) (replicate 8 (asks_update 3 1)) (SendUpdate 1) 7
    ∷ sends (mastership 1 1 []) (replicate 8 (asks_update 3 1)) (SendWrite 1) 7
    -- 5: the flag comes on; and it goes off by the status, the master, the id or the stream's term alone
    ∷ hears (mastership 1 1 []) 1 (is_master 3) true
    ∷ hears (mastership 1 1 []) 1 (is_not 3) false
    ∷ hears (mastership 1 1 []) 1 (is_none 3) false
    ∷ hears (mastership 1 2 (1 ∷ [])) 1 (is_master 3) false
    ∷ hears (mastership 1 1 []) 1 (is_master 4) false
    ∷ hears (mastership 1 1 []) 2 (is_master 3) false
    -- 11: the switch's term is tested and becomes the last accepted one, the write's term is recorded
    ∷ writes 2 5 4 0 [] 0 (history (by 1 2 ∷ []) ∷ last 5 ∷ responses 1 (accepted ∷ []) ∷ [])
    ∷ writes 5 3 4 0 [] 0 (history [] ∷ last 4 ∷ responses 1 (denied ∷ []) ∷ [])
    -- 11: another node is the switch's master; there is no room for the response
    ∷ writes 2 5 4 4 [] 0 (history [] ∷ last 4 ∷ responses 1 (denied ∷ []) ∷ [])
    ∷ writes 2 5 4 0 (replicate 8 denied) 7 (history [] ∷ last 4 ∷ [])
    ∷ []
