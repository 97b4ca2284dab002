-- In range, of a state of structs: what it holds is in range, and unused places and rows above N hold 0.
use Rattle.std.specs.Prelude.{Bool, true, false, not, ◌&&◌, List, ℕ, take, drop, leb, eqb}
use Rattle.rules.specs.Limits.{most_backups, queue_length, history_length}
use Rattle.rules.specs.Range.{all, in_range}
use Rattle.step_parts.specs.declared.Mastership.{Mastership}
use Rattle.step_parts.specs.declared.Message.{Message}
use Rattle.step_parts.specs.declared.Message.TheVariants as M
use Rattle.step_parts.specs.declared.Status.{Status}
use Rattle.step_parts.specs.declared.Status.TheVariants as T
use Rattle.step_parts.specs.declared.Request.{Request}
use Rattle.step_parts.specs.declared.Response.{Response}
use Rattle.step_parts.specs.declared.ElectionId.{ElectionId}
use Rattle.step_parts.specs.declared.Term.{Term}
use Rattle.step_parts.specs.declared.Write.{Write}
use Rattle.step_state.specs.Hold.{hold}
use Rattle.step_state.specs.declared.Controller.{Controller}
use Rattle.step_state.specs.declared.Stream.{Stream}
use Rattle.step_state.specs.declared.Core.{Core}
use Rattle.step_state.specs.declared.History.{History}
use Rattle.step_state.specs.declared.State.{State}

-- ---- blanks

abbrev pub is_zero : ℕ → Bool
is_zero x = eqb x 0

unfoldable pub no_message : Message → Bool
no_message M.Nothing = true
no_message M.Update = false
no_message M.Write = false

unfoldable pub no_status : Status → Bool
no_status T.Nothing = true
no_status T.Ok = false
no_status T.AlreadyExists = false
no_status T.NotFound = false
no_status T.PermissionDenied = false

unfoldable pub blank_mastership : Mastership → Bool
blank_mastership m = is_zero m.term.0 && is_zero m.master && all is_zero m.backups && is_zero m.len

unfoldable pub blank_request : Request → Bool
blank_request r = no_message r.message && is_zero r.id.0 && is_zero r.term.0

unfoldable pub blank_response : Response → Bool
blank_response r = no_message r.message && no_status r.status && is_zero r.id.0

-- ---- what is in use is tidy, and the places behind it are blank

unfoldable pub tidy_mastership : Mastership → Bool
tidy_mastership m = leb m.len most_backups && all is_zero (drop m.len m.backups)

unfoldable pub tidy_request : Request → Bool
tidy_request r = not (no_message r.message)

unfoldable pub tidy_response : Response → Bool
tidy_response r = not (no_message r.message) && not (no_status r.status)

unfoldable pub tidy_places : {B : Type 0} → ℕ → (B → Bool) → (B → Bool) → List B → ℕ → Bool
tidy_places size tidy blank items len = leb len size && all tidy (take len items) && all blank (drop len items)

unfoldable pub tidy_controller : Controller → Bool
tidy_controller r = tidy_places queue_length tidy_mastership blank_mastership r.events.items r.events.len && tidy_mastership r.learned

unfoldable pub tidy_stream : Stream → Bool
tidy_stream r =
    tidy_places queue_length tidy_request blank_request r.requests.items r.requests.len
    && tidy_places queue_length tidy_response blank_response r.responses.items r.responses.len

-- ---- rows above N

unfoldable pub blank_controller : Controller → Bool
blank_controller r = all blank_mastership r.events.items && is_zero r.events.len && blank_mastership r.learned && not r.says

unfoldable pub blank_stream : Stream → Bool
blank_stream r =
    not r.opened && is_zero r.sent.0
    && all blank_request r.requests.items && is_zero r.requests.len
    && all blank_response r.responses.items && is_zero r.responses.len

abbrev pub blank_id : ElectionId → Bool
blank_id i = is_zero i.0

abbrev pub blank_term : Term → Bool
blank_term t = is_zero t.0

unfoldable pub tidy_core : ℕ → Core → Bool
tidy_core count c =
    tidy_mastership c.service
    && all tidy_controller (take count c.controllers) && all blank_controller (drop count c.controllers)
    && all tidy_stream (take count c.streams) && all blank_stream (drop count c.streams)
    && all blank_id (drop count c.claims.ids) && all blank_term (drop count c.claims.terms)

abbrev pub any_write : Write → Bool
any_write e = true

unfoldable pub blank_write : Write → Bool
blank_write e = is_zero e.node && is_zero e.term.0

unfoldable pub tidy_history : History → Bool
tidy_history h = tidy_places history_length any_write blank_write h.items h.len

unfoldable pub state_fits : State → Bool
state_fits s = tidy_core s.count s.core && tidy_history s.history && in_range (hold s)
