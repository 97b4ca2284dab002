-- A write that was handled, as the code hands it back.
use Rattle.rules.specs.Parts.{Serving}
use Rattle.step_state.specs.Stores.{store_serving, pack_accepted}
use Rattle.step_state.specs.declared.Stream.{Stream}
use Rattle.step_switch_row.specs.declared.Handled.{Handled}

-- What Handle write writes: the stream, the last accepted term, and the write that joins the history, if it is accepted.
unfoldable pub store_handled : Serving → Stream → Handled
store_handled w s = record { stream = store_serving w s; last = record { 0 = w.last }; accepted = pack_accepted w.accepted }
