-- How a rule acts on a state. A rule sees nothing but what its part reads, and changes nothing but what its part writes.
use Rattle.std.specs.Prelude.{Bool, true, false, ℕ}
use Rattle.rules.specs.Codes.{step_done, not_allowed, term_limit, history_full, queue_full}

-- An answer, and the state that the step leaves.
pub record Result (A S : Type 0) : Type 0 where
  pub answer : A
  pub state : S

-- What a rule says: no, with an answer; or yes, with an answer and what is to be written.
pub data Out (A W : Type 0) : Type 0 where
  refuse : A → Out A W
  done : A → W → Out A W

-- A part of a state: what is read of it, and how a write changes the state.
pub record Part (S R W : Type 0) : Type 0 where
  pub get : S → R
  pub put : W → S → S

module _ {A S R W : Type 0} where
  -- A refusal leaves the state given.
  abbrev pub settle : Part S R W → S → Out A W → Result A S
  settle p s (refuse a) = record { answer = a; state = s }
  settle p s (done a w) = record { answer = a; state = p.put w s }

  -- The step of a rule over a part.
  abbrev pub via : Part S R W → (R → Out A W) → S → Result A S
  via p f s = settle p s (f (p.get s))

-- A rule: when it allows the step, what room it asks for, and what is then written.
pub record Rule (R W : Type 0) : Type 0 where
  pub allowed : R → Bool
  pub term_left : R → Bool
  pub history_left : R → Bool
  pub queues_left : R → Bool
  pub effect : R → W

-- Unless the test holds, the answer is a refusal.
abbrev pub need : {W : Type 0} → Bool → ℕ → Out ℕ W → Out ℕ W
need true a o = o
need false a o = refuse a

module _ {R W : Type 0} where
  -- The order of the answers that a rule gives: lower numbers first.
  unfoldable pub decide : Rule R W → R → Out ℕ W
  decide r v =
      need (r.allowed v) not_allowed
      (need (r.term_left v) term_limit
      (need (r.history_left v) history_full
      (need (r.queues_left v) queue_full
      (done step_done (r.effect v)))))

-- For a rule that asks for no such room.
abbrev pub always : {R : Type 0} → R → Bool
always v = true
