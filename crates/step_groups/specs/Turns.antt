-- What a step answers and leaves, by its group, on the structs that the group concerns.
use Rattle.std.specs.Prelude.{Bool, true, cond, None, List, [], ◌∷◌, ℕ, ◌-◌, eqb, get_or}
use Rattle.rules.specs.Codes.{step_done}
use Rattle.rules.specs.Part.{decide}
use Rattle.rules.specs.Rules.{join_rule, leave_rule, joined, left, hands_over, learn_rule, send_update_rule, receive_update_rule, send_write_rule, receive_write_rule, connect_rule, close_rule, handle_update_rule, handle_write_rule, shutdown_rule, startup_rule, cleared, join, learns, send_update, close}
use Rattle.rules.specs.Step.{number_of}
use Rattle.step_parts.specs.Hold.{hold_mastership, pack_mastership}
use Rattle.step_parts.specs.declared.Mastership.{Mastership}
use Rattle.step_state.specs.Hold.{hold_desk, hold_board}
use Rattle.step_state.specs.Reads.{answer_of, inbox_of, sender_of, receiver_of, linked_of, told_of, served_of, power_of}
use Rattle.step_state.specs.Stores.{store_sent, store_open, store_telling, pack_board}
use Rattle.step_state.specs.declared.Controller.{Controller}
use Rattle.step_state.specs.declared.Stream.{Stream}
use Rattle.step_state.specs.declared.Claims.{Claims}
use Rattle.step_state.specs.declared.Board.{Board}
use Rattle.step_nodes.specs.Waiting.{received}
use Rattle.step_switch_row.specs.Handled.{store_handled}
use Rattle.step_switch_row.specs.declared.Handled.{Handled}
use Rattle.step_asks.specs.declared.Ask.{Ask}
use Rattle.step_asks.specs.Groups.{existence}
use Rattle.step_groups.specs.declared.Row.{Row}

-- ---- the answers

-- Kinds 3 to 8, and 11.
abbrev pub row_answer : Ask → ℕ → Controller → Stream → Claims → ℕ
row_answer a writes controller stream claims =
    get_or (answer_of (decide learn_rule (inbox_of controller))
    ∷ answer_of (decide (send_update_rule a.node) (sender_of a.count controller stream))
    ∷ answer_of (decide (receive_update_rule a.node) (receiver_of a.count controller stream))
    ∷ answer_of (decide (send_write_rule a.node) (sender_of a.count controller stream))
    ∷ answer_of (decide receive_write_rule (receiver_of a.count controller stream))
    ∷ answer_of (decide connect_rule (linked_of a.running stream)) ∷ []) (a.kind - number_of learns)
    (answer_of (decide (handle_write_rule a.node) (served_of a.node a.running stream claims writes)))

-- Kinds 1 and 2.
abbrev pub desk_answer : Ask → Mastership → List Controller → ℕ
desk_answer a service controllers =
    cond (eqb a.kind (number_of join))
    (answer_of (decide (join_rule a.node) (hold_desk a.count service controllers)))
    (answer_of (decide (leave_rule a.node) (hold_desk a.count service controllers)))

-- Kinds 9 and 10, 12 and 13.
abbrev pub switch_answer : Ask → List Stream → Claims → ℕ
switch_answer a streams claims =
    get_or (answer_of (decide (close_rule a.node) (told_of a.count a.node a.running streams claims))
    ∷ answer_of (decide (handle_update_rule a.node) (told_of a.count a.node a.running streams claims))
    ∷ step_done
    ∷ answer_of (decide shutdown_rule (power_of a.count a.running streams claims)) ∷ []) (a.kind - number_of close)
    (answer_of (decide startup_rule (power_of a.count a.running streams claims)))

abbrev pub board_answer : Ask → List Stream → Claims → ℕ
board_answer a streams claims = cond (eqb (existence a) step_done) (switch_answer a streams claims) (existence a)

-- ---- what is left

-- The stream alone has changed.
abbrev pub quiet : Controller → Claims → Stream → Row
quiet controller claims stream = record { stream = stream; says = controller.says; claims = claims; accepted = None }

-- Receive update: the flag too.
abbrev pub flagged_row : Ask → Controller → Stream → Claims → Row
flagged_row a controller stream claims = record {
  stream = received stream;
  says = ((receive_update_rule a.node).effect (receiver_of a.count controller stream)).says;
  claims = claims;
  accepted = None;
}

-- Handle write: the last accepted term, and the write.
abbrev pub handled_row : Controller → Claims → Handled → Row
handled_row controller claims h = record {
  stream = h.stream;
  says = controller.says;
  claims = record { ids = claims.ids; terms = claims.terms; elected = claims.elected; last = h.last };
  accepted = h.accepted;
}

abbrev pub written_row : Ask → Controller → Stream → Claims → Row
written_row a controller stream claims = handled_row controller claims (store_handled ((handle_write_rule a.node).effect (served_of a.node true stream claims 0)) stream)

-- Kinds 4 to 8, and 11.
abbrev pub row_after : Ask → Controller → Stream → Claims → Row
row_after a controller stream claims =
    get_or (quiet controller claims (store_sent ((send_update_rule a.node).effect (sender_of a.count controller stream)) stream)
    ∷ flagged_row a controller stream claims
    ∷ quiet controller claims (store_sent ((send_write_rule a.node).effect (sender_of a.count controller stream)) stream)
    ∷ quiet controller claims (received stream)
    ∷ quiet controller claims (store_open true stream) ∷ []) (a.kind - number_of send_update)
    (written_row a controller stream claims)

-- Kinds 1 and 2: the service's mastership, and whether the nodes hear of it.
abbrev pub service_after : Ask → Mastership → Mastership
service_after a service = cond (eqb a.kind (number_of join)) (pack_mastership (joined a.node (hold_mastership service))) (pack_mastership (left a.node (hold_mastership service)))

abbrev pub posting : Ask → Mastership → Bool
posting a service = cond (eqb a.kind (number_of join)) true (hands_over a.node (hold_mastership service))

-- Kinds 9 and 10, 12 and 13: the board.
abbrev pub board_after : Ask → List Stream → Claims → Board
board_after a streams claims =
    get_or (store_telling a.node ((close_rule a.node).effect (told_of a.count a.node true streams claims)) a.count streams claims
    ∷ store_telling a.node ((handle_update_rule a.node).effect (told_of a.count a.node true streams claims)) a.count streams claims
    ∷ record { streams = streams; claims = claims }
    ∷ pack_board (cleared (hold_board a.count streams claims)) ∷ []) (a.kind - number_of close)
    (record { streams = streams; claims = claims })
