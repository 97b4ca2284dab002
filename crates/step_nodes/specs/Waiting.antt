-- What the functions of this crate promise beyond the rules' own words.
use Rattle.std.specs.Prelude.{◌≡◌, Bool, false, not, cond, ◌&&◌, ℕ, ◌≤◌}
use Rattle.rules.specs.Limits.{top_id}
use Rattle.rules.specs.Codes.{step_done, not_allowed, queue_full}
use Rattle.rules.specs.Queues.{first, rest, empty}
use Rattle.rules.specs.Rules.{is_update, is_write, no_response}
use Rattle.step_parts.specs.Hold.{hold_responses, pack_responses}
use Rattle.step_state.specs.Order.{OrderedStream}
use Rattle.step_state.specs.declared.Stream.{Stream}

-- The answer of a step that sends.
abbrev pub send_answer : Bool → Bool → ℕ
send_answer allowed full = cond allowed (cond full queue_full step_done) not_allowed

-- An update response, or a write response, is the head of an open stream's responses.
abbrev pub update_waits : Stream → Bool
update_waits s = s.opened && not (empty (hold_responses s.responses)) && is_update (first no_response (hold_responses s.responses)).message

abbrev pub write_waits : Stream → Bool
write_waits s = s.opened && not (empty (hold_responses s.responses)) && is_write (first no_response (hold_responses s.responses)).message

-- A response waits, and its id is in range.
pub record Waits (s : Stream) : Type 0 where
  pub ordered : OrderedStream s
  pub some : empty (hold_responses s.responses) ≡ false
  pub small : (first no_response (hold_responses s.responses)).id ≤ top_id

-- The stream with the head of its responses taken off.
abbrev pub received : Stream → Stream
received s = record { opened = s.opened; sent = s.sent; requests = s.requests; responses = pack_responses (rest (hold_responses s.responses)) }
