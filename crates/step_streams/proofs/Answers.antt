-- The answer of any rule, by its tests, and what a step that is done says of them. Assumes nothing.
use mathlib.Core.Path.{◌≡◌, refl, sym, ◌∙◌}
use mathlib.Core.Bool.{Bool, true, false, cond}
use Prim.Native.Nat.{ℕ}
use native.Mathlib.Omega.{arith}
use Rattle.rules.specs.Codes.{step_done, not_allowed, term_limit, history_full, queue_full}
use Rattle.rules.specs.Part.{Rule, decide, need, done}
use Rattle.step_state.specs.Reads.{answer_of}

-- All tests of the rule hold.
pub record Clear {R W : Type 0} (r : Rule R W) (v : R) : Type 0 where
  pub allowed : r.allowed v ≡ true
  pub term_left : r.term_left v ≡ true
  pub history_left : r.history_left v ≡ true
  pub queues_left : r.queues_left v ≡ true

-- the answer by the four tests
abbrev pub by_tests : Bool → Bool → Bool → Bool → ℕ
by_tests a t h q = cond a (cond t (cond h (cond q step_done queue_full) history_full) term_limit) not_allowed

module _ {R W : Type 0} (r : Rule R W) (v : R) where
  nested : (a t h q : Bool) → answer_of (need a not_allowed (need t term_limit (need h history_full (need q queue_full (done step_done (r.effect v)))))) ≡ by_tests a t h q
  nested false t h q = refl
  nested true false h q = refl
  nested true true false q = refl
  nested true true true false = refl
  nested true true true true = refl

  answer-is : answer_of (decide r v) ≡ by_tests (r.allowed v) (r.term_left v) (r.history_left v) (r.queues_left v)
  unfolding decide
  answer-is = nested (r.allowed v) (r.term_left v) (r.history_left v) (r.queues_left v)

  pub answer-by : (a t h q : Bool) → r.allowed v ≡ a → r.term_left v ≡ t → r.history_left v ≡ h → r.queues_left v ≡ q → answer_of (decide r v) ≡ by_tests a t h q
  answer-by a t h q ea et eh eq = answer-is ∙ (λ i. by_tests (ea i) (et i) (eh i) (eq i))

  -- a step that is done
  pub clear : answer_of (decide r v) ≡ step_done → Clear r v
  clear e = go (r.allowed v) (r.term_left v) (r.history_left v) (r.queues_left v) refl refl refl refl (sym answer-is ∙ e)
    where
      go : (a t h q : Bool) → r.allowed v ≡ a → r.term_left v ≡ t → r.history_left v ≡ h → r.queues_left v ≡ q → by_tests a t h q ≡ 0 → Clear r v
      go false t h q ea et eh eq z = absurd (omega arith)
      go true false h q ea et eh eq z = absurd (omega arith)
      go true true false q ea et eh eq z = absurd (omega arith)
      go true true true false ea et eh eq z = absurd (omega arith)
      go true true true true ea et eh eq z = record { allowed = ea; term_left = et; history_left = eh; queues_left = eq }
