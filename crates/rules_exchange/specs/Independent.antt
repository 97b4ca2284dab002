-- Which steps are independent: the written list, (a) to (f), in either order, and no others. Assumes nothing.
use Rattle.std.specs.Prelude.{Bool, true, false, not, ◌&&◌, ◌||◌, List, [], ◌∷◌, ◌++◌, ℕ, eqb}
use Rattle.std.proofs.Math.Option.{Option, none, some}
use Rattle.rules.specs.Queues.{has}
use Rattle.rules.specs.Rules.{Kind, class_of, join, leave, learns, send_update, receive_update, send_write, receive_write, connect, close, handle_update, handle_write, shutdown, startup}
use Rattle.rules.specs.Step.{Event, kind_of, number_of, called}

-- ---- the kinds that the list speaks of, by their numbers

abbrev pub service_kinds : List ℕ
service_kinds = number_of join ∷ number_of leave ∷ []

abbrev pub learn_kinds : List ℕ
learn_kinds = number_of learns ∷ []

abbrev pub send_kinds : List ℕ
send_kinds = number_of send_update ∷ number_of send_write ∷ []

abbrev pub receive_kinds : List ℕ
receive_kinds = number_of receive_update ∷ number_of receive_write ∷ []

-- The steps of the switch on one stream, and those of them that tell no other stream.
abbrev pub stream_kinds : List ℕ
stream_kinds = number_of connect ∷ number_of close ∷ number_of handle_update ∷ number_of handle_write ∷ []

abbrev pub quiet_kinds : List ℕ
quiet_kinds = number_of connect ∷ number_of handle_write ∷ []

abbrev pub switch_kinds : List ℕ
switch_kinds = stream_kinds ++ (number_of shutdown ∷ number_of startup ∷ [])

abbrev pub message_kinds : List ℕ
message_kinds = send_kinds ++ receive_kinds

abbrev pub node_kinds : List ℕ
node_kinds = learn_kinds ++ message_kinds

-- ---- the list

-- A line of the list: these kinds with those, whatever the nodes of the two steps, or for different nodes only.
pub record Line : Type 0 where
  pub these : List ℕ
  pub those : List ℕ
  pub differ : Bool

abbrev pub any_nodes : List ℕ → List ℕ → Line
any_nodes these those = record { these = these; those = those; differ = false }

abbrev pub other_nodes : List ℕ → List ℕ → Line
other_nodes these those = record { these = these; those = those; differ = true }

abbrev pub lines : List Line
lines =
    -- (a) two of learn, send, receive, for different nodes
    other_nodes node_kinds node_kinds
    -- (b) service with send or receive
    ∷ any_nodes service_kinds message_kinds
    -- (c) service with switch
    ∷ any_nodes service_kinds switch_kinds
    -- (d) learn with switch
    ∷ any_nodes learn_kinds switch_kinds
    -- (e) send for n with 8, 9, 10 or 11 for another node
    ∷ other_nodes send_kinds stream_kinds
    -- (f) receive for n with 8 or 11 for another node
    ∷ other_nodes receive_kinds quiet_kinds
    ∷ []

-- The line lets two nodes in.
abbrev pub admits : Line → ℕ → ℕ → Bool
admits l n m = not l.differ || not (eqb n m)

-- The line names the two steps, in this order.
abbrev pub names : Line → Event → Event → Bool
names l e f = has e.kind l.these && has f.kind l.those && admits l e.node f.node

unfoldable pub listed : List Line → Event → Event → Bool
listed [] e f = false
listed (l ∷ ls) e f = names l e f || listed ls e f

-- The kind is known, and it calls for the node.
abbrev pub calls : Option Kind → ℕ → ℕ → Bool
calls none count n = false
calls (some k) count n = called (class_of k) count n

unfoldable pub exists : ℕ → Event → Bool
exists count e = calls (kind_of e.kind) count e.node

-- Two steps are independent, among `count` nodes: both exist, and a line names them, in either order.
unfoldable pub independent : ℕ → Event → Event → Bool
independent count e f = exists count e && exists count f && (listed lines e f || listed lines f e)
