-- Handling a write, stopping and starting keep the switch in range, and a board with nothing on it is in range. Assumes nothing.
use Rattle.std.specs.Prelude.{◌≡◌, refl, Bool, true, false, not, cond, ◌||◌, List, [], ◌∷◌, map, ℕ, zero, suc, ◌+◌, ◌≤◌, length, replicate, T, ltb}
use Rattle.std.proofs.Common.{ap, true≢false, arith}
use Rattle.std.proofs.lemmas.List.{length-replicate}
use Rattle.rules.specs.Limits.{top_term, history_length}
use Rattle.rules.specs.State.{Request, Response, Status, ok, permission_denied, Board}
use Rattle.rules.specs.Queues.{push, first, rest, empty}
use Rattle.rules.specs.Election.{elected}
use Rattle.rules.specs.Parts.{Served, Serving}
use Rattle.rules.specs.Rules.{is_write, no_request, accepts, write_answer, handle_write_rule, cleared}
use Rattle.rules_laws.specs.All.{All}
use Rattle.rules_laws.specs.InRange.{DistinctIds, Within, QueueFits, RequestFits, ResponseFits, WriteFits, BoardFits}
use Rattle.rules_laws.specs.Tests.{◌&◌, as-is, is-yes, is_lt}
use Rattle.rules_laws.specs.RangeTest.{no_stream}
use Rattle.rules_laws.specs.Lists.{all_replicate, replicate-at, queue-rest, queue-first, queue-push}
use Rattle.rules_laws.specs.Answered.{Passes}

-- ---- 11 Handle write

pub record ServingFits (count writes : ℕ) (is_open : Bool) (x : Serving) : Type 0 where
  pub opened : is_open ≡ true
  pub requests : QueueFits RequestFits x.requests
  pub responses : QueueFits ResponseFits x.responses
  pub last : x.last ≤ top_term
  pub size : writes + length x.accepted ≤ history_length
  pub accepted : All (WriteFits count) x.accepted

module _ (count n : ℕ) (node : Within 1 count n) (v : Served) (requests : QueueFits RequestFits v.requests) (responses : QueueFits ResponseFits v.responses)
    (term : v.term ≤ top_term) (last : v.last ≤ top_term) (writes : v.writes ≤ history_length) where
  pub handle-write-fits : Passes (handle_write_rule n) v → ServingFits count v.writes v.is_open ((handle_write_rule n).effect v)
  unfolding handle_write_rule
  handle-write-fits p =
      let a = (is-yes v.running & is-yes v.is_open & as-is (not (empty v.requests)) & as-is (is_write (first no_request v.requests).message)).to p.allowed in
      go (accepts n v) a.0.0.1 (queue-first RequestFits no_request v.requests a.0.1 requests) p.history
    where
      answered : (s : Status) → ResponseFits (write_answer s) → QueueFits ResponseFits (push (write_answer s) v.responses)
      answered s k = queue-push ResponseFits (write_answer s) v.responses k p.queues responses

      go : (b : Bool) → v.is_open ≡ true → RequestFits (first no_request v.requests) → T (not b || ltb v.writes history_length)
          → ServingFits count v.writes v.is_open (record {
            requests = rest v.requests;
            responses = push (write_answer (cond b ok permission_denied)) v.responses;
            last = cond b v.term v.last;
            accepted = cond b (record { node = n; term = (first no_request v.requests).term } ∷ []) [];
          })
      go true o k t = record {
        opened = o;
        requests = queue-rest RequestFits v.requests requests;
        responses = answered ok refl;
        last = term;
        size = let below = (is_lt v.writes history_length).to t in omega arith;
        accepted = (record { node = node; term = k.term }, tt);
      }
      go false o k t = record {
        opened = o;
        requests = queue-rest RequestFits v.requests requests;
        responses = answered permission_denied refl;
        last = last;
        size = omega arith;
        accepted = tt;
      }

-- ---- 12 Shutdown, and the fresh board: nothing on any stream

abbrev pub no_board : ℕ → ℕ → Board
no_board count last = record {
  opens = replicate count false;
  sent = replicate count 0;
  requests = replicate count [];
  responses = replicate count [];
  held = elected (replicate count 0);
  terms = replicate count 0;
  last = last;
}

pub no-board-fits : (count : ℕ) (running : Bool) (last : ℕ) → last ≤ top_term → BoardFits count running (no_board count last)
unfolding elected
no-board-fits count running last u = record {
  opens-size = length-replicate count false;
  sent-size = length-replicate count 0;
  requests-size = length-replicate count [];
  responses-size = length-replicate count [];
  ids-size = length-replicate count 0;
  terms-size = length-replicate count 0;
  streams = λ i. rw (replicate-at count false i, replicate-at {A = ℕ} count 0 i, replicate-at {A = List Request} count [] i, replicate-at {A = List Response} count [] i) no_stream;
  held = record { distinct = no-ids count; made = refl };
  stopped = λ e. all_replicate (λ o. o ≡ false) count false refl;
  last = u;
}
  where
    no-ids : (n : ℕ) → DistinctIds (replicate n 0)
    no-ids zero = tt
    no-ids (suc n) = ((λ z. absurd (z refl)), no-ids n)

pub cleared-fits : {count : ℕ} {running : Bool} {w : Board} (running' : Bool) → BoardFits count running w → BoardFits count running' (cleared w)
unfolding cleared
cleared-fits {count} {w = w} running' h = rw (
  same w.opens false,
  same {B = ℕ} w.sent 0,
  same {B = List Request} w.requests [],
  same {B = List Response} w.responses [],
  same {B = ℕ} w.held.ids 0,
  same {B = ℕ} w.terms 0,
  h.opens-size,
  h.sent-size,
  h.requests-size,
  h.responses-size,
  h.ids-size,
  h.terms-size,
) (no-board-fits count running' w.last h.last)
  where
    same : {A B : Type 0} (l : List A) (x : B) → map (λ y. x) l ≡ replicate (length l) x
    same [] x = refl
    same (y ∷ l) x = ap (λ m. x ∷ m) (same l x)

-- ---- 13 Startup

pub started-fits : {count : ℕ} {running : Bool} {w : Board} → BoardFits count running w → BoardFits count true w
started-fits h = record {
  opens-size = h.opens-size;
  sent-size = h.sent-size;
  requests-size = h.requests-size;
  responses-size = h.responses-size;
  ids-size = h.ids-size;
  terms-size = h.terms-size;
  streams = h.streams;
  held = h.held;
  stopped = λ e. absurd (true≢false e);
  last = h.last;
}
