-- The step: which kinds and nodes exist, and the order of all answers.
use Rattle.std.specs.Prelude.{Bool, true, false, List, [], ◌∷◌, ℕ, get_or, replicate, eqb}
use Rattle.std.proofs.Math.Option.{Option, none, some}
use Rattle.rules.specs.Codes.{out_of_range, unknown_kind, wrong_node}
use Rattle.rules.specs.State.{State, blank}
use Rattle.rules.specs.Range.{within, in_range}
use Rattle.rules.specs.Election.{elected}
use Rattle.rules.specs.Part.{Result, via, decide}
use Rattle.rules.specs.Parts.{Class, service, learn, send, receive, link, tell, serve, power, part}
use Rattle.rules.specs.Rules.{Kind, class_of, rule, join, leave, learns, send_update, receive_update, send_write, receive_write, connect, close, handle_update, handle_write, shutdown, startup}

-- A record of an event list.
pub record Event : Type 0 where
  pub kind : ℕ
  pub node : ℕ

-- The kinds at their numbers, from 1.
abbrev pub kinds : List (Option Kind)
kinds = none ∷ some join ∷ some leave ∷ some learns ∷ some send_update ∷ some receive_update ∷ some send_write ∷ some receive_write
    ∷ some connect ∷ some close ∷ some handle_update ∷ some handle_write ∷ some shutdown ∷ some startup ∷ []

abbrev pub kind_of : ℕ → Option Kind
kind_of k = get_or kinds k none

-- The number of a kind: the way back, by `of_number` in rules_laws/specs/Kinds.
abbrev pub number_of : Kind → ℕ
number_of join = 1
number_of leave = 2
number_of learns = 3
number_of send_update = 4
number_of receive_update = 5
number_of send_write = 6
number_of receive_write = 7
number_of connect = 8
number_of close = 9
number_of handle_update = 10
number_of handle_write = 11
number_of shutdown = 12
number_of startup = 13

-- The node that a class calls for: one of the N, or 0 for 12 and 13.
abbrev pub called : Class → ℕ → ℕ → Bool
called service count n = within 1 count n
called learn count n = within 1 count n
called send count n = within 1 count n
called receive count n = within 1 count n
called link count n = within 1 count n
called tell count n = within 1 count n
called serve count n = within 1 count n
called power count n = eqb n 0

-- A step of a kind that exists, at a node that it calls for.
abbrev pub act : Kind → ℕ → State → Result ℕ State
act k n = via (part (class_of k) n) (decide (rule k n))

abbrev pub refused : ℕ → State → Result ℕ State
refused a s = record { answer = a; state = s }

abbrev pub at_node : Bool → Kind → ℕ → State → Result ℕ State
at_node true k n s = act k n s
at_node false k n s = refused wrong_node s

abbrev pub of_kind : Option Kind → ℕ → State → Result ℕ State
of_kind none n s = refused unknown_kind s
of_kind (some k) n s = at_node (called (class_of k) s.count n) k n s

abbrev pub of_state : Bool → Event → State → Result ℕ State
of_state true e s = of_kind (kind_of e.kind) e.node s
of_state false e s = refused out_of_range s

-- The step that every contract and every theorem speaks of.
unfoldable pub step : Event → State → Result ℕ State
step e s = of_state (in_range s) e s

-- The fresh state of `count` nodes.
unfoldable pub fresh : ℕ → State
fresh count = record {
  count = count;
  running = true;
  history = [];
  core = record {
    desk = record { service = blank; events = replicate count [] };
    learned = replicate count blank;
    says = replicate count false;
    board = record {
      opens = replicate count false;
      sent = replicate count 0;
      requests = replicate count [];
      responses = replicate count [];
      held = elected (replicate count 0);
      terms = replicate count 0;
      last = 0;
    };
  };
}
