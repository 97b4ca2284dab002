-- States that have something where nothing is in use: they are out of range. Assumes nothing.
use Rattle.std.specs.Prelude.{◌≡◌, refl, Bool, true, false, not, ◌&&◌, List, [], ◌∷◌, ℕ, set}
use Rattle.std.proofs.Common.{ap}
use Rattle.rules.specs.State as S
use Rattle.rules.specs.Range.{all, in_range}
use Rattle.rules.specs.Election.{elected}
use Rattle.rules.specs.Step.{fresh}
use Rattle.step_parts.specs.Hold.{pack_mastership, pack_request, pack_response, pack_write}
use Rattle.step_state.specs.Hold.{pack_controllers, pack_streams, pack_claims, pack_core, pack_history, hold, represent, pack_controller, pack_stream}
use Rattle.step_state.specs.Tidy.{no_message, no_status, blank_mastership, blank_request, blank_response, tidy_mastership, tidy_request, tidy_response, tidy_places, tidy_controller, tidy_stream, blank_controller, blank_stream, tidy_core, blank_write, tidy_history, state_fits}
use Rattle.step_state.specs.declared.Claims.{Claims}
use Rattle.step_state.specs.declared.Controller.{Controller}
use Rattle.step_state.specs.declared.Core.{Core}
use Rattle.step_state.specs.declared.State.{State}
use Rattle.step_state.specs.declared.Stream.{Stream}

-- The fresh state of two nodes, with something else in it.
abbrev core_is : (Core → Core) → State
core_is f = let s = represent (fresh 2) in record { count = s.count; running = s.running; core = f s.core; history = s.history }

abbrev controller_is : ℕ → Controller → State
controller_is i r = core_is (λ c. record { service = c.service; controllers = set c.controllers i r; streams = c.streams; claims = c.claims })

abbrev stream_is : ℕ → Stream → State
stream_is i r = core_is (λ c. record { service = c.service; controllers = c.controllers; streams = set c.streams i r; claims = c.claims })

abbrev claims_are : (Claims → Claims) → State
claims_are f = core_is (λ c. record { service = c.service; controllers = c.controllers; streams = c.streams; claims = f c.claims })

-- ---- the last place of an array, where nothing is in use

abbrev learned_backup : Controller
learned_backup = let r = pack_controller [] S.blank false in record {
  events = r.events;
  learned = record { term = r.learned.term; master = r.learned.master; backups = set r.learned.backups 6 1; len = r.learned.len };
  says = r.says;
}

abbrev event : Controller
event = let r = pack_controller [] S.blank false in record {
  events = record { items = set r.events.items 7 (pack_mastership (record { term = 1; master = 1; backups = [] })); len = r.events.len };
  learned = r.learned;
  says = r.says;
}

abbrev request : Stream
request = let r = pack_stream true 0 [] [] in record {
  opened = r.opened;
  sent = r.sent;
  requests = record { items = set r.requests.items 7 (pack_request (record { message = S.update; id = 3; term = 1 })); len = r.requests.len };
  responses = r.responses;
}

abbrev response : Stream
response = let r = pack_stream true 0 [] [] in record {
  opened = r.opened;
  sent = r.sent;
  requests = r.requests;
  responses = record { items = set r.responses.items 7 (pack_response (record { message = S.write; status = S.ok; id = 0 })); len = r.responses.len };
}

abbrev accepted : State
accepted = let s = represent (fresh 2) in record {
  count = s.count;
  running = s.running;
  core = s.core;
  history = record { items = set s.history.items 1023 (pack_write (record { node = 1; term = 1 })); len = s.history.len };
}

abbrev pub at_last_places : List State
at_last_places = controller_is 0 learned_backup ∷ controller_is 0 event ∷ stream_is 0 request ∷ stream_is 0 response ∷ accepted ∷ []

-- ---- the last row, which is above N: a flag, an open stream, an id, a term

abbrev pub in_last_rows : List State
in_last_rows =
    controller_is 7 (pack_controller [] S.blank true)
    ∷ stream_is 7 (pack_stream true 0 [] [])
    ∷ claims_are (λ c. record { ids = set c.ids 7 (record { 0 = 1 }); terms = c.terms; elected = c.elected; last = c.last })
    ∷ claims_are (λ c. record { ids = c.ids; terms = set c.terms 7 (record { 0 = 1 }); elected = c.elected; last = c.last })
    ∷ []

-- ---- none of them is in range

unfoldable opened : ℕ
unfolding all elected fresh pack_controllers pack_streams pack_claims pack_core pack_history represent no_message no_status blank_mastership blank_request blank_response tidy_mastership tidy_request tidy_response tidy_places tidy_controller tidy_stream blank_controller blank_stream tidy_core blank_write tidy_history
opened = 0

abbrev pub is_tidy : State → Bool
is_tidy s = tidy_core s.count s.core && tidy_history s.history

pub places-are-untidy : all (λ s. not (is_tidy s)) at_last_places ≡ true
unfolding opened
places-are-untidy = refl

pub rows-are-untidy : all (λ s. not (is_tidy s)) in_last_rows ≡ true
unfolding opened
rows-are-untidy = refl

pub untidy-is-out : (s : State) → is_tidy s ≡ false → state_fits s ≡ false
unfolding state_fits
untidy-is-out s e = ap (λ (tidy : Bool). tidy && in_range (hold s)) e
