-- A board stays in range where one stream, and with it the response queues, is written anew. Assumes nothing.
use Rattle.std.specs.Prelude.{◌≡◌, Bool, true, false, List, [], ℕ, ◌-◌, ◌≤◌, ◌<◌, length, get_or, set}
use Rattle.std.proofs.Common.{sym, ap, ◌∙◌, true≢false, length-set, get_or-set_same, get_or-set_other}
use Rattle.std.proofs.Math.Decide.{ℕ_discrete}
use Rattle.std.proofs.lemmas.List.{set-get_or}
use Rattle.rules.specs.Limits.{top_term, top_id}
use Rattle.rules.specs.State.{Request, Response, Held, Board}
use Rattle.rules.specs.Parts.{Telling}
use Rattle.rules_laws.specs.All.{All}
use Rattle.rules_laws.specs.InRange.{QueueFits, RequestFits, ResponseFits, Shut, StreamAt, HeldFits, BoardFits}
use Rattle.rules_laws.specs.Lists.{at_set}

-- All response queues, by who is open.
pub record ResponsesFit (count : ℕ) (opens : List Bool) (qs : List (List Response)) : Type 0 where
  pub size : length qs ≡ count
  pub queues : (i : ℕ) → QueueFits ResponseFits (get_or qs i [])
  pub closed : (i : ℕ) → get_or opens i false ≡ false → get_or qs i [] ≡ []

-- One open stream's queue anew.
pub own-queue : {count : ℕ} {opens : List Bool} {qs : List (List Response)} (j : ℕ) {q : List Response}
    → get_or opens j false ≡ true → QueueFits ResponseFits q → ResponsesFit count opens qs → ResponsesFit count opens (set qs j q)
own-queue {opens = opens} {qs = qs} j {q} o k h = record {
  size = length-set qs j q ∙ h.size;
  queues = λ i. at_set (QueueFits ResponseFits) qs j i q [] k (h.queues i);
  closed = λ i e. get_or-set_other qs j i q [] (λ z. true≢false (sym o ∙ ap (λ (l : ℕ). get_or opens l false) (sym z) ∙ e)) ∙ h.closed i e;
}

-- The board with stream n as x says, where g is then held.
abbrev pub rewritten : ℕ → Telling → Held → ℕ → Board → Board
rewritten n x g last w = record {
  opens = set w.opens (n - 1) x.is_open;
  sent = set w.sent (n - 1) x.sent;
  requests = set w.requests (n - 1) x.requests;
  responses = x.responses;
  held = g;
  terms = set w.terms (n - 1) x.term;
  last = last;
}

-- What x and g have to be.
pub record Anew (count : ℕ) (running : Bool) (w : Board) (n : ℕ) (x : Telling) (g : Held) : Type 0 where
  pub responses : ResponsesFit count (set w.opens (n - 1) x.is_open) x.responses
  pub sent : x.sent ≤ top_term
  pub requests : QueueFits RequestFits x.requests
  pub id : x.id ≤ top_id
  pub term : x.term ≤ top_term
  pub shut : x.is_open ≡ false → Shut x.sent x.requests [] x.id x.term
  pub ids : g.ids ≡ set w.held.ids (n - 1) x.id
  pub held : HeldFits g
  pub stopped : running ≡ false → All (λ o. o ≡ false) (set w.opens (n - 1) x.is_open)

module _ {count : ℕ} {running : Bool} {w : Board} (h : BoardFits count running w) where
  pub responses-fit : ResponsesFit count w.opens w.responses
  responses-fit = record { size = h.responses-size; queues = λ i. (h.streams i).responses-fit; closed = λ i e. ((h.streams i).shut e).no-responses }

  module _ (n : ℕ) (place : n - 1 < count) where
    stream-anew : (x : Telling) (g : Held) (last : ℕ) → Anew count running w n x g → (i : ℕ) → Dec (i ≡ n - 1) → StreamAt (rewritten n x g last w) i
    stream-anew x g last k i (yes e) =
        let o : get_or (set w.opens (n - 1) x.is_open) (n - 1) false ≡ x.is_open = get_or-set_same w.opens (n - 1) x.is_open false (rw h.opens-size place) in
        rw (
          e,
          o,
          k.ids,
          get_or-set_same w.sent (n - 1) x.sent 0 (rw h.sent-size place),
          get_or-set_same w.requests (n - 1) x.requests [] (rw h.requests-size place),
          get_or-set_same w.held.ids (n - 1) x.id 0 (rw h.ids-size place),
          get_or-set_same w.terms (n - 1) x.term 0 (rw h.terms-size place),
        )
        (record {
          sent-high = k.sent;
          requests-fit = k.requests;
          responses-fit = k.responses.queues (n - 1);
          id-high = k.id;
          term-high = k.term;
          shut = λ z. let s = k.shut z in
              record { no-sent = s.no-sent; no-requests = s.no-requests; no-responses = k.responses.closed (n - 1) (o ∙ z); no-id = s.no-id; no-term = s.no-term };
        })
    stream-anew x g last k i (no z) =
        let o : get_or (set w.opens (n - 1) x.is_open) i false ≡ get_or w.opens i false = get_or-set_other w.opens (n - 1) i x.is_open false z in
        let y = h.streams i in
        rw (
          o,
          k.ids,
          get_or-set_other w.sent (n - 1) i x.sent 0 z,
          get_or-set_other w.requests (n - 1) i x.requests [] z,
          get_or-set_other w.held.ids (n - 1) i x.id 0 z,
          get_or-set_other w.terms (n - 1) i x.term 0 z,
        )
        (record {
          sent-high = y.sent-high;
          requests-fit = y.requests-fit;
          responses-fit = k.responses.queues i;
          id-high = y.id-high;
          term-high = y.term-high;
          shut = λ e. let s = y.shut e in
              record { no-sent = s.no-sent; no-requests = s.no-requests; no-responses = k.responses.closed i (o ∙ e); no-id = s.no-id; no-term = s.no-term };
        })

    pub rewritten-fits : (x : Telling) (g : Held) (last : ℕ) → Anew count running w n x g → last ≤ top_term → BoardFits count running (rewritten n x g last w)
    rewritten-fits x g last k u = record {
      opens-size = length-set w.opens (n - 1) x.is_open ∙ h.opens-size;
      sent-size = length-set w.sent (n - 1) x.sent ∙ h.sent-size;
      requests-size = length-set w.requests (n - 1) x.requests ∙ h.requests-size;
      responses-size = k.responses.size;
      ids-size = ap length k.ids ∙ length-set w.held.ids (n - 1) x.id ∙ h.ids-size;
      terms-size = length-set w.terms (n - 1) x.term ∙ h.terms-size;
      streams = λ i. stream-anew x g last k i (ℕ_discrete i (n - 1));
      held = k.held;
      stopped = k.stopped;
      last = u;
    }

    -- A stream that is open, and stays so with its id and term.
    pub open-fits : (sent : ℕ) (requests : List Request) (responses : List (List Response)) (last : ℕ) → get_or w.opens (n - 1) false ≡ true
        → sent ≤ top_term → QueueFits RequestFits requests → ResponsesFit count w.opens responses → last ≤ top_term
        → BoardFits count running (record {
          opens = w.opens;
          sent = set w.sent (n - 1) sent;
          requests = set w.requests (n - 1) requests;
          responses = responses;
          held = w.held;
          terms = w.terms;
          last = last;
        })
    open-fits sent requests responses last o a b c d = simp set-get_or at (rewritten-fits (record {
      is_open = get_or w.opens (n - 1) false;
      sent = sent;
      requests = requests;
      responses = responses;
      id = get_or w.held.ids (n - 1) 0;
      term = get_or w.terms (n - 1) 0;
    }) w.held last (record {
      responses = rw set-get_or c;
      sent = a;
      requests = b;
      id = (h.streams (n - 1)).id-high;
      term = (h.streams (n - 1)).term-high;
      shut = λ e. absurd (true≢false (sym o ∙ e));
      ids = sym (set-get_or w.held.ids (n - 1) 0);
      held = h.held;
      stopped = rw set-get_or h.stopped;
    }) d)

    -- A stream that is opened: it may have been closed, with nothing on it.
    pub opened-fits : running ≡ true → BoardFits count running (record {
      opens = set w.opens (n - 1) true;
      sent = w.sent;
      requests = w.requests;
      responses = w.responses;
      held = w.held;
      terms = w.terms;
      last = w.last;
    })
    opened-fits r = let y = h.streams (n - 1) in simp set-get_or at (rewritten-fits (record {
      is_open = true;
      sent = get_or w.sent (n - 1) 0;
      requests = get_or w.requests (n - 1) [];
      responses = w.responses;
      id = get_or w.held.ids (n - 1) 0;
      term = get_or w.terms (n - 1) 0;
    }) w.held w.last (record {
      responses = record {
        size = h.responses-size;
        queues = responses-fit.queues;
        closed = λ i. at_set (λ b. b ≡ false → get_or w.responses i [] ≡ []) w.opens (n - 1) i true false (λ e. absurd (true≢false e)) (responses-fit.closed i);
      };
      sent = y.sent-high;
      requests = y.requests-fit;
      id = y.id-high;
      term = y.term-high;
      shut = λ e. absurd (true≢false e);
      ids = sym (set-get_or w.held.ids (n - 1) 0);
      held = h.held;
      stopped = λ e. absurd (true≢false (sym r ∙ e));
    }) h.last)
