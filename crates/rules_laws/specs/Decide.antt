-- What a rule decides, by its tests, and so what holds of a step of the rule. Assumes nothing.
use Rattle.std.specs.Prelude.{◌≡◌, Bool, not, ℕ, T}
use Rattle.std.proofs.Math.Path.{refl}
use Rattle.std.proofs.Math.Bool.{true, false}
use Rattle.rules.specs.Codes.{step_done, not_allowed, term_limit, history_full, queue_full}
use Rattle.rules.specs.Part.{Result, Out, refuse, done, Part, settle, via, Rule, need, decide}
use Rattle.rules_laws.specs.Answered.{Passes}
use Rattle.rules_laws.specs.Tests.{is-yes, is-not}

module _ {R W : Type 0} where
  -- The five ends of `decide`, each with the tests that lead to it.
  pub data Decided (r : Rule R W) (v : R) : Out ℕ W → Type 0 where
    barred : T (not (r.allowed v)) → Decided r v (refuse not_allowed)
    no-term : T (r.allowed v) → T (not (r.term_left v)) → Decided r v (refuse term_limit)
    no-history : T (r.allowed v) → T (r.term_left v) → T (not (r.history_left v)) → Decided r v (refuse history_full)
    no-queue : T (r.allowed v) → T (r.term_left v) → T (r.history_left v) → T (not (r.queues_left v)) → Decided r v (refuse queue_full)
    passed : Passes r v → Decided r v (done step_done (r.effect v))

  module _ (r : Rule R W) (v : R) where
    pub decided : Decided r v (decide r v)
    unfolding decide
    decided = go (r.allowed v) (r.term_left v) (r.history_left v) (r.queues_left v) refl refl refl refl
      where
        go : (a t h q : Bool) → r.allowed v ≡ a → r.term_left v ≡ t → r.history_left v ≡ h → r.queues_left v ≡ q
            → Decided r v (need a not_allowed (need t term_limit (need h history_full (need q queue_full (done step_done (r.effect v))))))
        go false t h q i j k l = barred (rw i tt)
        go true false h q i j k l = no-term (rw i tt) (rw j tt)
        go true true false q i j k l = no-history (rw i tt) (rw j tt) (rw k tt)
        go true true true false i j k l = no-queue (rw i tt) (rw j tt) (rw k tt) (rw l tt)
        go true true true true i j k l = passed (record { allowed = rw i tt; term = rw j tt; history = rw k tt; queues = rw l tt })

    -- There is no other.
    pub decides : {o : Out ℕ W} → Decided r v o → decide r v ≡ o
    unfolding decide
    decides (barred a) = rw ((is-not (r.allowed v)).to a)
    decides (no-term a t) = rw ((is-yes (r.allowed v)).to a, (is-not (r.term_left v)).to t)
    decides (no-history a t h) = rw ((is-yes (r.allowed v)).to a, (is-yes (r.term_left v)).to t, (is-not (r.history_left v)).to h)
    decides (no-queue a t h q) =
        rw ((is-yes (r.allowed v)).to a, (is-yes (r.term_left v)).to t, (is-yes (r.history_left v)).to h, (is-not (r.queues_left v)).to q)
    decides (passed p) =
        rw ((is-yes (r.allowed v)).to p.allowed, (is-yes (r.term_left v)).to p.term, (is-yes (r.history_left v)).to p.history, (is-yes (r.queues_left v)).to p.queues)

-- A step of a rule is a refusal that leaves the state given, or every test holds and the effect is put.
module _ {S R W : Type 0} (G : Result ℕ S → Type 0) (p : Part S R W) (r : Rule R W) (s : S) where
  pub via-is : ((a : ℕ) → Decided r (p.get s) (refuse a) → G (record { answer = a; state = s }))
      → (Passes r (p.get s) → G (record { answer = step_done; state = p.put (r.effect (p.get s)) s })) → G (via p (decide r) s)
  via-is f g = go (decided r (p.get s))
    where
      go : {o : Out ℕ W} → Decided r (p.get s) o → G (settle p s o)
      go (barred a) = f not_allowed (barred a)
      go (no-term a t) = f term_limit (no-term a t)
      go (no-history a t h) = f history_full (no-history a t h)
      go (no-queue a t h q) = f queue_full (no-queue a t h q)
      go (passed k) = g k
