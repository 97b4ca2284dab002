-- A body with one of its parts anew.
use Rattle.std.specs.Prelude.{Bool, List, ℕ, ◌-◌, set}
use Rattle.step_parts.specs.declared.Mastership.{Mastership}
use Rattle.step_parts.specs.declared.Term.{Term}
use Rattle.step_state.specs.declared.Controller.{Controller}
use Rattle.step_state.specs.declared.Stream.{Stream}
use Rattle.step_state.specs.declared.Claims.{Claims}
use Rattle.step_state.specs.declared.Body.{Body}

abbrev pub with_desk : Mastership → List Controller → Body → Body
with_desk service controllers b = record {
  count = b.count;
  running = b.running;
  core = record { service = service; controllers = controllers; streams = b.core.streams; claims = b.core.claims };
}

abbrev pub with_controller : ℕ → Controller → Body → Body
with_controller n r b = with_desk b.core.service (set b.core.controllers (n - 1) r) b

abbrev pub with_board : Bool → List Stream → Claims → Body → Body
with_board running streams claims b = record {
  count = b.count;
  running = running;
  core = record { service = b.core.service; controllers = b.core.controllers; streams = streams; claims = claims };
}

abbrev pub with_stream : ℕ → Stream → Body → Body
with_stream n r b = with_board b.running (set b.core.streams (n - 1) r) b.core.claims b

abbrev pub with_last : Term → Body → Body
with_last t b = with_board b.running b.core.streams (record { ids = b.core.claims.ids; terms = b.core.claims.terms; elected = b.core.claims.elected; last = t }) b
