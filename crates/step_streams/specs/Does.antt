-- What the functions of this crate do to a stream, and read of it. Assumes nothing.
use Rattle.std.specs.Prelude.{Bool, false, not, cond, ◌&&◌, List, ℕ, ◌+◌, get_or}
use Rattle.rules.specs.Queues.{first, empty}
use Rattle.rules.specs.State as S
use Rattle.rules.specs.Election.{status_for}
use Rattle.rules.specs.Rules.{no_request}
use Rattle.step_parts.specs.Hold as P
use Rattle.step_parts.specs.Hold.{hold_requests, pack_message, pack_response}
use Rattle.step_parts.specs.Queues.{without_first, with_last}
use Rattle.step_parts.specs.declared.Message.{Message}
use Rattle.step_parts.specs.declared.Message.TheVariants as M
use Rattle.step_parts.specs.declared.Response.{Response}
use Rattle.step_state.specs.Order.{past_stream}
use Rattle.step_state.specs.declared.Elected.{Elected}
use Rattle.step_state.specs.declared.Stream.{Stream}

-- What node n is told of whom the ids elect: `news`, of the struct.
abbrev pub news_of : Elected → ℕ → S.Response
news_of e n = record { message = S.update; status = status_for e.master n; id = e.largest.0 }

-- The response goes last.
abbrev pub responded : Response → Stream → Stream
responded r s = record { opened = s.opened; sent = s.sent; requests = s.requests; responses = with_last s.responses r }

-- The head request is taken off.
abbrev pub without_head : Stream → Stream
without_head s = record { opened = s.opened; sent = s.sent; requests = without_first P.no_request s.requests; responses = s.responses }

-- The row at place i after all open streams are told.
abbrev pub tell_row : List Bool → (ℕ → S.Response) → List Stream → ℕ → Stream
tell_row opens say streams i =
    cond (get_or opens i false) (responded (pack_response (say (i + 1))) (get_or streams i past_stream)) (get_or streams i past_stream)

-- The switch runs, the stream is open, and a request waits on it.
abbrev pub able : Bool → Stream → Bool
able running s = running && s.opened && not (empty (hold_requests s.requests))

-- What the request that waits is about; nothing where none can be handled.
unfoldable pub waiting : Bool → Stream → Message
waiting running s = cond (able running s) (pack_message (first no_request (hold_requests s.requests)).message) M.Nothing
