-- The rules 3 to 7 by the tests that the code makes. Assumes nothing.
use Rattle.std.specs.Prelude.{◌≡◌, ◌≢◌, Bool, not, ◌&&◌, List, [], ◌∷◌, ℕ, ◌≤◌, ltb, eqb, get_or}
use Rattle.std.proofs.Math.Path.{refl, sym, ap}
use Rattle.std.proofs.Common.{◌∙◌}
use Rattle.std.proofs.Math.Bool.{true, false, and-false}
use native.Mathlib.Omega.{arith}
use Rattle.std.proofs.Math.Dec.{leb}
use borrow.Author.Tests.{eq-eqb, ne_eqb, le-ltb}
use Rattle.rules.specs.Limits.{top_id}
use Rattle.rules.specs.State as S
use Rattle.rules.specs.Queues.{first, empty}
use Rattle.rules.specs.Ids.{named, term_of}
use Rattle.rules.specs.Rules.{learn_rule, send_update_rule, receive_update_rule, send_write_rule, is_update, is_write, is_ok, confirms}
use Rattle.rules.specs.Rules as R
use Rattle.any_list.specs.Arrays.{Queue, packed}
use Rattle.any_list.specs.Queue.{head-held, empty-held}
use Rattle.step_parts.specs.Hold.{pack_mastership, hold_mastership, no_mastership, past_mastership, places, hold_events, pack_response, hold_response, no_response, hold_responses, hold_message, hold_status, EventQueue, ResponseQueue}
use Rattle.step_parts.specs.Ordered.{OrderedEvents, OrderedResponses, response-back}
use Rattle.step_parts.specs.declared.Mastership.{Mastership}
use Rattle.step_parts.specs.declared.Response.{Response}
use Rattle.step_state.specs.Order.{OrderedController, OrderedStream}
use Rattle.step_state.specs.Reads.{inbox_of, sender_of, receiver_of}
use Rattle.step_state.specs.declared.Controller.{Controller}
use Rattle.step_state.specs.declared.Stream.{Stream}
use Rattle.step_nodes.specs.Waiting.{update_waits, write_waits, Waits}

-- ---- heads and fullness

-- the head of the events, also of an empty queue, where it is blank
pub head-event : (q : EventQueue) → OrderedEvents q → get_or q.items 0 past_mastership ≡ pack_mastership (first S.blank (hold_events q))
unfolding first
head-event q o = ap (λ (p : Queue Mastership). get_or p.items 0 past_mastership) (sym o.same) ∙ go (hold_events q)
  where
    go : (l : List S.Mastership) → get_or (packed no_mastership pack_mastership l).items 0 past_mastership ≡ pack_mastership (first S.blank l)
    go [] = refl
    go (x ∷ l) = refl

pub head-response : (q : ResponseQueue) → OrderedResponses q → empty (hold_responses q) ≡ false → get_or q.items 0 no_response ≡ pack_response (first R.no_response (hold_responses q))
head-response q o e = head-held no_response pack_response hold_response (places q) o no_response R.no_response e

pub none-waits : (q : ResponseQueue) → OrderedResponses q → q.len ≡ 0 → empty (hold_responses q) ≡ true
none-waits q o e = empty-held no_response pack_response hold_response (places q) o ∙ eq-eqb q.len 0 e

pub some-waits : (q : ResponseQueue) → OrderedResponses q → q.len ≢ 0 → empty (hold_responses q) ≡ false
some-waits q o e = empty-held no_response pack_response hold_response (places q) o ∙ ne_eqb q.len 0 e

pub head-message : (q : ResponseQueue) (o : OrderedResponses q) → empty (hold_responses q) ≡ false
    → hold_message (get_or q.items 0 no_response).message ≡ (first R.no_response (hold_responses q)).message
head-message q o e = ap (λ (r : Response). hold_message r.message) (head-response q o e) ∙ ap (λ (r : S.Response). r.message) (response-back (first R.no_response (hold_responses q)))

update-or-write : (m : S.Message) → is_update m ≡ not (is_write m)
unfolding is_update is_write
update-or-write S.update = refl
update-or-write S.write = refl

-- ---- 3 Learn

module _ (r : Controller) (o : OrderedController r) where
  pub learn-none : r.events.len ≡ 0 → false ≡ learn_rule.allowed (inbox_of r)
  unfolding learn_rule
  learn-none e = simp (empty-held no_mastership pack_mastership hold_mastership (places r.events) o.events, eq-eqb r.events.len 0 e)

  pub learn-some : r.events.len ≢ 0 → leb r.learned.term.0 (get_or r.events.items 0 past_mastership).term.0 ≡ learn_rule.allowed (inbox_of r)
  unfolding learn_rule
  learn-some e =
      simp (empty-held no_mastership pack_mastership hold_mastership (places r.events) o.events, ne_eqb r.events.len 0 e)
      (ap (λ (m : Mastership). leb r.learned.term.0 m.term.0) (head-event r.events o.events))

-- ---- 5, 7 Receive

module _ (s : Stream) (o : OrderedStream s) where
  pub waits-closed : s.opened ≡ false → (false ≡ update_waits s) × (false ≡ write_waits s)
  waits-closed e = (simp e, simp e)

  pub waits-none : s.opened ≡ true → s.responses.len ≡ 0 → (false ≡ update_waits s) × (false ≡ write_waits s)
  waits-none e n = let z = none-waits s.responses o.responses n in (simp (e, z), simp (e, z))

  pub waits-some : s.opened ≡ true → s.responses.len ≢ 0 → (b : Bool) → b ≡ is_write (hold_message (get_or s.responses.items 0 no_response).message)
      → (not b ≡ update_waits s) × (b ≡ write_waits s)
  waits-some e n b h =
      let z = some-waits s.responses o.responses n in
      let m = head-message s.responses o.responses z in
      let k = h ∙ ap is_write m in
      (simp (e, z) (ap not k ∙ sym (update-or-write (first R.no_response (hold_responses s.responses)).message)), simp (e, z) k)

-- ---- 5 the flag

-- one test of four fails
no_second : (a b c d : Bool) → b ≡ false → (a && b && c && d) ≡ false
no_second true b c d e = simp e
no_second false b c d e = refl

no_third : (a b c d : Bool) → c ≡ false → (a && b && c && d) ≡ false
no_third true true c d e = simp e
no_third true false c d e = refl
no_third false b c d e = refl

module _ (count n : ℕ) (r : Controller) (s : Stream) (h : Waits s) where
  head : Response
  head = get_or s.responses.items 0 no_response

  heard : S.Response
  heard = first R.no_response (hold_responses s.responses)

  head-id : head.id.0 ≡ heard.id
  unfolding head heard
  head-id = ap (λ (x : Response). x.id.0) (head-response s.responses h.ordered.responses h.some)

  head-status : hold_status head.status ≡ heard.status
  unfolding head heard
  head-status = ap (λ (x : Response). hold_status x.status) (head-response s.responses h.ordered.responses h.some) ∙ ap (λ (x : S.Response). x.status) (response-back heard)

  pub flag_small : (get_or s.responses.items 0 no_response).id.0 ≤ top_id
  unfolding head heard
  flag_small = let e = head-id in let k = h.small in omega arith

  pub flag_ok : r.learned.master ≡ n → s.sent.0 ≡ r.learned.term.0 → (t : ℕ) → t ≡ term_of count (get_or s.responses.items 0 no_response).id.0 → t ≡ r.learned.term.0
      → (b : Bool) → b ≡ is_ok (hold_status (get_or s.responses.items 0 no_response).status) → b ≡ ((receive_update_rule n).effect (receiver_of count r s)).says
  unfolding receive_update_rule confirms head heard
  flag_ok m q t e f b g =
      g ∙ ap is_ok head-status
      ∙ all_true (is_ok heard.status) (eqb r.learned.master n) (eqb (term_of count heard.id) r.learned.term.0) (eqb s.sent.0 r.learned.term.0)
      (eq-eqb _ _ m) (eq-eqb _ _ (ap (term_of count) (sym head-id) ∙ sym e ∙ f)) (eq-eqb _ _ q)
    where
      all_true : (a b c d : Bool) → b ≡ true → c ≡ true → d ≡ true → a ≡ (a && b && c && d)
      all_true true b c d p q r = simp (p, q, r)
      all_true false b c d p q r = refl

  pub flag-other-id : (t : ℕ) → t ≡ term_of count (get_or s.responses.items 0 no_response).id.0 → t ≢ r.learned.term.0 → false ≡ ((receive_update_rule n).effect (receiver_of count r s)).says
  unfolding receive_update_rule confirms head heard
  flag-other-id t e f = sym (no_third (is_ok heard.status) (eqb r.learned.master n) _ _ (ne_eqb _ _ (λ z. f (e ∙ ap (term_of count) head-id ∙ z))))

  pub flag-other-term : s.sent.0 ≢ r.learned.term.0 → false ≡ ((receive_update_rule n).effect (receiver_of count r s)).says
  unfolding receive_update_rule confirms
  flag-other-term f = simp (ne_eqb _ _ f, and-false)

  pub flag-other-master : r.learned.master ≢ n → false ≡ ((receive_update_rule n).effect (receiver_of count r s)).says
  unfolding receive_update_rule confirms
  flag-other-master f = simp (ne_eqb _ _ f, and-false)

-- ---- 4, 6 Send

module _ (count n : ℕ) (r : Controller) (s : Stream) where
  pub update-sent : r.learned.term.0 ≤ s.sent.0 → false ≡ (send_update_rule n).allowed (sender_of count r s)
  unfolding send_update_rule
  update-sent h = sym (no_third s.opened (ltb 0 r.learned.term.0) _ (named n (hold_mastership r.learned)) (le-ltb s.sent.0 r.learned.term.0 h))

  pub write-untermed : r.learned.term.0 ≤ 0 → false ≡ (send_write_rule n).allowed (sender_of count r s)
  unfolding send_write_rule
  write-untermed h = sym (no_second s.opened _ (eqb r.learned.master n) r.says (le-ltb 0 r.learned.term.0 h))

  pub write-other : r.learned.master ≢ n → false ≡ (send_write_rule n).allowed (sender_of count r s)
  unfolding send_write_rule
  write-other h = sym (no_third s.opened (ltb 0 r.learned.term.0) _ r.says (ne_eqb r.learned.master n h))
