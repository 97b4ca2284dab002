-- Opens every definition of the rules at once, for facts that are computed: name `computed` on the `unfolding` line.
use Rattle.std.specs.Prelude.{ℕ}
use Rattle.rules.specs.Queues.{push, first, rest, empty, room, room_all, has, remove, before}
use Rattle.rules.specs.Ids.{election_id, term_of, named, place_of, id_for}
use Rattle.rules.specs.Range.{all, each, within, distinct, distinct_ids, queue_fits, backup_fits, mastership_fits, service_fits, learned_fits, desk_fits, request_fits, answer_fits, response_fits, stream_fits, held_fits, board_fits, write_fits, core_fits, in_range}
use Rattle.rules.specs.Part.{decide}
use Rattle.rules.specs.Election.{largest, master_of, elected, holding, taken, status_for, news, tell_from, room_open}
use Rattle.rules.specs.Rules.{posted, unposted, vacant, joined, join_rule, hands_over, left, leave_rule, learn_rule, send_update_rule, is_update, is_write, is_ok, confirms, receive_update_rule, send_write_rule, receive_write_rule, connect_rule, held_left, opens_left, responses_left, changes, close_room, closed, close_rule, held_with, update_room, updated, handle_update_rule, accepts, handle_write_rule, cleared, shutdown_rule, startup_rule}
use Rattle.rules.specs.Step.{step, fresh}

unfoldable pub computed : ℕ
unfolding push first rest empty room room_all has remove before election_id term_of named place_of id_for all each within distinct distinct_ids queue_fits backup_fits mastership_fits service_fits learned_fits desk_fits request_fits answer_fits response_fits stream_fits held_fits board_fits write_fits core_fits in_range decide largest master_of elected holding taken status_for news tell_from room_open posted unposted vacant joined join_rule hands_over left leave_rule learn_rule send_update_rule is_update is_write is_ok confirms receive_update_rule send_write_rule receive_write_rule connect_rule held_left opens_left responses_left changes close_room closed close_rule held_with update_room updated handle_update_rule accepts handle_write_rule cleared shutdown_rule startup_rule step fresh
computed = 0
