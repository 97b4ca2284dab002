-- Masterships and queues in range, as the code tests them: place by place. What each function of the code gives.
use Rattle.std.specs.Prelude.{Bool, false, not, cond, ◌&&◌, List, ℕ, ◌+◌, leb, ltb, eqb, get_or}
use Rattle.rules.specs.Limits.{most_backups, top_term, top_id, queue_length}
use Rattle.rules.specs.State as S
use Rattle.rules.specs.Ids.{place_of}
use Rattle.rules.specs.Range.{each, within, request_fits, answer_fits}
use Rattle.step_parts.specs.Hold.{hold_mastership, hold_message, hold_status, hold_request, no_request, no_response, past_mastership, EventQueue, RequestQueue, ResponseQueue}
use Rattle.step_parts.specs.declared.Mastership.{Mastership}
use Rattle.step_parts.specs.declared.Status.{Status}
use Rattle.step_parts.specs.declared.Request.{Request}
use Rattle.step_parts.specs.declared.Response.{Response}
use Rattle.step_state.specs.Tidy.{is_zero, no_message, no_status, tidy_request, blank_request, blank_response}

-- ---- any array

-- The place i of an array of which the first `len` places are in use; d is what is read past its end.
abbrev pub place : {B : Type 0} → (B → Bool) → (B → Bool) → B → List B → ℕ → ℕ → Bool
place used behind d l len i = cond (ltb i len) (used (get_or l i d)) (behind (get_or l i d))

unfoldable pub places_test : {B : Type 0} → ℕ → (B → Bool) → (B → Bool) → B → List B → ℕ → Bool
places_test size used behind d l len = leb len size && each size (place used behind d l len)

-- ---- masterships

-- The number b at place i of the backups: one in use is a node whose first place in the mastership this is.
unfoldable pub backup_at : ℕ → Mastership → ℕ → ℕ → Bool
backup_at count m i b = cond (ltb i m.len) (within 1 count b && eqb (place_of b (hold_mastership m)) (i + 1)) (is_zero b)

abbrev pub backup_place : ℕ → Mastership → ℕ → Bool
backup_place count m i = backup_at count m i (get_or m.backups i 0)

-- Among no nodes: there are no backups.
unfoldable pub backups_test : ℕ → Mastership → Bool
backups_test count m = leb m.len most_backups && each most_backups (backup_place count m)

unfoldable pub blank_test : Mastership → Bool
blank_test m = is_zero m.term.0 && is_zero m.master && backups_test 0 m

unfoldable pub event_test : ℕ → Mastership → Bool
event_test count m = within 1 top_term m.term.0 && within 1 count m.master && backups_test count m

unfoldable pub service_test : ℕ → Mastership → Bool
service_test count m = cond (is_zero m.master) (leb m.term.0 top_term && backups_test 0 m) (event_test count m)

unfoldable pub learned_test : ℕ → Mastership → Bool
learned_test count m = cond (not (is_zero m.term.0)) (event_test count m) (blank_test m)

-- ---- queues

unfoldable pub events_test : ℕ → EventQueue → Bool
events_test count q = places_test queue_length (event_test count) blank_test past_mastership q.items q.len

-- What a request carries, at a place in use.
unfoldable pub carries_test : Bool → ℕ → ℕ → Bool
carries_test used id term = cond used (within 1 top_id id && within 1 top_term term) false

unfoldable pub request_test : Request → Bool
request_test r = tidy_request r && request_fits (hold_request r)

unfoldable pub requests_test : RequestQueue → Bool
requests_test q = places_test queue_length request_test blank_request no_request q.items q.len

-- The status and the id of a response, by what it is about.
unfoldable pub status_test : S.Message → Status → ℕ → Bool
status_test m s id = not (no_status s) && answer_fits m (hold_status s) id

unfoldable pub response_test : Response → Bool
response_test r = not (no_message r.message) && status_test (hold_message r.message) r.status r.id.0

unfoldable pub responses_test : ResponseQueue → Bool
responses_test q = places_test queue_length response_test blank_response no_response q.items q.len
