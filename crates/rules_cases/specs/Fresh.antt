-- More runs from fresh: refusals, and what the service posts. Assumes nothing.
use Rattle.std.specs.Prelude.{true, List, [], ◌∷◌, ◌++◌, replicate}
use Rattle.rules.specs.Step.{fresh}
use Rattle.rules_cases.specs.Names.{Join, Leave, Learn, SendUpdate, ReceiveUpdate, SendWrite, ReceiveWrite, Connect, Close, HandleUpdate, HandleWrite, Shutdown, Startup, mastership}
use Rattle.rules_cases.specs.Situation.{service, events, says, requests, responses, Situation}

-- A backup that leaves is not posted; the first backup takes over, and is.
abbrev hands_over : Situation
hands_over = record {
  start = fresh 3;
  steps = Join 1 ∷ Join 2 ∷ Join 3 ∷ Leave 2 ∷ Join 2 ∷ Leave 1 ∷ [];
  answers = replicate 6 0;
  ends = service (mastership 2 3 (2 ∷ []))
      ∷ events 2 (mastership 1 1 [] ∷ mastership 1 1 (2 ∷ []) ∷ mastership 1 1 (2 ∷ 3 ∷ []) ∷ mastership 1 1 (3 ∷ 2 ∷ []) ∷ mastership 2 3 (2 ∷ []) ∷ [])
      ∷ [];
}

abbrev not_allowed : Situation
not_allowed = record {
  start = fresh 2;
  steps = Leave 1 ∷ Join 1 ∷ Join 1 ∷ Join 2 ∷ Join 2
      ∷ SendUpdate 1 ∷ ReceiveUpdate 1 ∷ SendWrite 1 ∷ ReceiveWrite 1 ∷ Close 1 ∷ HandleUpdate 1 ∷ HandleWrite 1
      ∷ Startup 0 ∷ Shutdown 0 ∷ Shutdown 0 ∷ Connect 1 ∷ Startup 0 ∷ Connect 1 ∷ [];
  answers = 4 ∷ 0 ∷ 4 ∷ 0 ∷ 4 ∷ replicate 7 4 ++ (4 ∷ 0 ∷ 4 ∷ 4 ∷ 0 ∷ 0 ∷ []);
  ends = [];
}

-- One update is sent for a term, and no write before the switch has said that the node is master.
abbrev sends_once : Situation
sends_once = record {
  start = fresh 2;
  steps = Join 1 ∷ Learn 1 ∷ Connect 1 ∷ SendUpdate 1 ∷ SendUpdate 1 ∷ SendWrite 1 ∷ [];
  answers = 0 ∷ 0 ∷ 0 ∷ 0 ∷ 4 ∷ 4 ∷ [];
  ends = [];
}

-- A head of the other kind is left where it stands.
abbrev wrong_heads : Situation
wrong_heads = record {
  start = fresh 2;
  steps = Join 1 ∷ Learn 1 ∷ Connect 1 ∷ SendUpdate 1 ∷ HandleWrite 1 ∷ HandleUpdate 1 ∷ ReceiveWrite 1 ∷ ReceiveUpdate 1
      ∷ SendWrite 1 ∷ HandleUpdate 1 ∷ HandleWrite 1 ∷ ReceiveUpdate 1 ∷ ReceiveWrite 1 ∷ [];
  answers = 0 ∷ 0 ∷ 0 ∷ 0 ∷ 4 ∷ 0 ∷ 4 ∷ 0 ∷ 0 ∷ 4 ∷ 0 ∷ 4 ∷ 0 ∷ [];
  ends = says 1 true ∷ requests 1 [] ∷ responses 1 [] ∷ [];
}

-- Nodes that are not called for, and kinds that are not known, whatever their node.
abbrev unknown : Situation
unknown = record {
  start = fresh 2;
  steps = Join 0 ∷ Join 3 ∷ HandleWrite 0 ∷ Startup 1 ∷ record { kind = 0; node = 1 } ∷ record { kind = 14; node = 9 } ∷ [];
  answers = 3 ∷ 3 ∷ 3 ∷ 3 ∷ 2 ∷ 2 ∷ [];
  ends = [];
}

abbrev pub from_fresh : List Situation
from_fresh = hands_over ∷ not_allowed ∷ sends_once ∷ wrong_heads ∷ unknown ∷ []
