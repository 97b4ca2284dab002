-- A struct is in order if it is what it holds with blanks behind it. What was written is held and in order;
-- fullness, appending and taking off are those of the list that a queue in order holds. Assumes nothing.
use Rattle.std.specs.Prelude.{◌≡◌, refl, false, List, [], ◌∷◌, ℕ, zero, suc, ◌≤◌, leb, length, take}
use Rattle.std.proofs.Common.{ap}
use Rattle.rules.specs.Limits.{most_backups, queue_length}
use Rattle.rules.specs.Queues.{push, rest}
use Rattle.rules.specs.State as S
use Rattle.any_list.specs.Arrays.{padded}
use Rattle.any_list.specs.Queue.{Ordered, ordered-packed, push-held, pop-held}
use Rattle.step_parts.specs.Hold.{hold_mastership, pack_mastership, no_mastership, as_is, hold_message, pack_message, hold_status, pack_status, hold_request, pack_request, no_request, hold_response, pack_response, no_response, places, of_places, pack_queue, hold_queue, EventQueue, RequestQueue, ResponseQueue, pack_events, hold_events, pack_requests, hold_requests, pack_responses, hold_responses}
use Rattle.step_parts.specs.Queues.{with_last, without_first}
use Rattle.step_parts.specs.declared.Mastership.{Mastership}
use Rattle.step_parts.specs.declared.Queue.{Queue}

-- ---- what was written is held

taken : (size : ℕ) (l : List ℕ) → take (length l) (padded 0 as_is size l) ≡ l
taken size [] = refl
taken zero (x ∷ l) = ap (λ (t : List ℕ). x ∷ t) (taken zero l)
taken (suc size) (x ∷ l) = ap (λ (t : List ℕ). x ∷ t) (taken size l)

pub mastership-back : (m : S.Mastership) → hold_mastership (pack_mastership m) ≡ m
mastership-back m = λ i. record { term = m.term; master = m.master; backups = taken most_backups m.backups i }

message-back : (m : S.Message) → hold_message (pack_message m) ≡ m
message-back S.update = refl
message-back S.write = refl

status-back : (s : S.Status) → hold_status (pack_status s) ≡ s
status-back S.ok = refl
status-back S.already_exists = refl
status-back S.not_found = refl
status-back S.permission_denied = refl

pub request-back : (r : S.Request) → hold_request (pack_request r) ≡ r
request-back r = λ i. record { message = message-back r.message i; id = r.id; term = r.term }

pub response-back : (r : S.Response) → hold_response (pack_response r) ≡ r
response-back r = λ i. record { message = message-back r.message i; status = status-back r.status i; id = r.id }

-- ---- in order

pub record OrderedMastership (m : Mastership) : Type 0 where
  pub same : pack_mastership (hold_mastership m) ≡ m
  pub short : length (hold_mastership m).backups ≤ most_backups

abbrev pub OrderedEvents : EventQueue → Type 0
OrderedEvents q = Ordered no_mastership pack_mastership hold_mastership (places q)

abbrev pub OrderedRequests : RequestQueue → Type 0
OrderedRequests q = Ordered no_request pack_request hold_request (places q)

abbrev pub OrderedResponses : ResponseQueue → Type 0
OrderedResponses q = Ordered no_response pack_response hold_response (places q)

pub ordered-mastership : (m : S.Mastership) → length m.backups ≤ most_backups → OrderedMastership (pack_mastership m)
ordered-mastership m h = record { same = ap pack_mastership (mastership-back m); short = rw (taken most_backups m.backups) h }

pub ordered-events : (l : List S.Mastership) → length l ≤ queue_length → OrderedEvents (pack_events l)
ordered-events l h = ordered-packed no_mastership pack_mastership hold_mastership mastership-back l h

pub ordered-requests : (l : List S.Request) → length l ≤ queue_length → OrderedRequests (pack_requests l)
ordered-requests l h = ordered-packed no_request pack_request hold_request request-back l h

pub ordered-responses : (l : List S.Response) → length l ≤ queue_length → OrderedResponses (pack_responses l)
ordered-responses l h = ordered-packed no_response pack_response hold_response response-back l h

-- ---- appending and taking off

-- Stated once, over the element type.
module _ {X T : Type 0} (blank : T) (rep : X → T) (hold : T → X) (q : Queue T) (o : Ordered blank rep hold (places q)) where
  pub push-places : (x : X) → leb queue_length q.len ≡ false → with_last q (rep x) ≡ pack_queue blank rep (push x (hold_queue hold q))
  unfolding with_last
  push-places x f = ap of_places (push-held blank rep hold (places q) o x f)

  pub pop-places : without_first blank q ≡ pack_queue blank rep (rest (hold_queue hold q))
  unfolding without_first
  pop-places = ap of_places (pop-held blank rep hold (places q) o)

pub push-events : (q : EventQueue) (m : S.Mastership) → OrderedEvents q → leb queue_length q.len ≡ false → with_last q (pack_mastership m) ≡ pack_events (push m (hold_events q))
push-events q m o f = push-places no_mastership pack_mastership hold_mastership q o m f

pub pop-events : (q : EventQueue) → OrderedEvents q → without_first no_mastership q ≡ pack_events (rest (hold_events q))
pop-events q o = pop-places no_mastership pack_mastership hold_mastership q o

pub push-requests : (q : RequestQueue) (r : S.Request) → OrderedRequests q → leb queue_length q.len ≡ false → with_last q (pack_request r) ≡ pack_requests (push r (hold_requests q))
push-requests q r o f = push-places no_request pack_request hold_request q o r f

pub pop-requests : (q : RequestQueue) → OrderedRequests q → without_first no_request q ≡ pack_requests (rest (hold_requests q))
pop-requests q o = pop-places no_request pack_request hold_request q o

pub push-responses : (q : ResponseQueue) (r : S.Response) → OrderedResponses q → leb queue_length q.len ≡ false → with_last q (pack_response r) ≡ pack_responses (push r (hold_responses q))
push-responses q r o f = push-places no_response pack_response hold_response q o r f

pub pop-responses : (q : ResponseQueue) → OrderedResponses q → without_first no_response q ≡ pack_responses (rest (hold_responses q))
pop-responses q o = pop-places no_response pack_response hold_response q o
