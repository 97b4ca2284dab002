-- A step answers as `Answered` says, and never otherwise; and so what holds of any step. Assumes nothing.
use Rattle.std.specs.Prelude.{◌≡◌, Bool, ℕ}
use Rattle.std.proofs.Math.Path.{refl}
use Rattle.std.proofs.Common.{ap, ◌∙◌}
use Rattle.std.proofs.Math.Bool.{true, false}
use Rattle.std.proofs.Math.Option.{Option, none, some}
use Rattle.std.proofs.Math.Dec.{T}
use Rattle.rules.specs.Codes.{step_done, out_of_range, unknown_kind, wrong_node}
use Rattle.rules.specs.State.{State}
use Rattle.rules.specs.Range.{in_range}
use Rattle.rules.specs.Part.{Result, Out, refuse, settle}
use Rattle.rules.specs.Parts.{Writes, part}
use Rattle.rules.specs.Rules.{Kind, class_of, rule}
use Rattle.rules.specs.Step.{Event, kind_of, called, act, refused, at_node, of_kind, of_state, step}
use Rattle.rules_laws.specs.Tests.{is-yes, is-not}
use Rattle.rules_laws.specs.Answered.{Passes, sees, after, Reaches, Answered, step-done, out-of-range, unknown-kind, wrong-node, not-allowed, term-limit, history-full, queue-full}
use Rattle.rules_laws.specs.Decide.{Decided, barred, no-term, no-history, no-queue, passed, decides, via-is}

-- Why a rule that is reached refuses.
refusal : (e : Event) (s : State) (k : Kind) → Reaches e s k → (a : ℕ) → Decided (rule k e.node) (sees k e.node s) (refuse a) → Answered e s a
refusal e s k c a (barred x) = not-allowed k c x
refusal e s k c a (no-term x t) = term-limit k c x t
refusal e s k c a (no-history x t h) = history-full k c x t h
refusal e s k c a (no-queue x t h q) = queue-full k c x t h q

-- A step is a refusal, with its reason, that leaves the state given; or it is done.
module _ (G : Result ℕ State → Type 0) (e : Event) (s : State) where
  pub step_is : ((a : ℕ) → Answered e s a → G (refused a s))
      → ((k : Kind) → Reaches e s k → Passes (rule k e.node) (sees k e.node s) → G (record { answer = step_done; state = after k e.node s }))
      → G (step e s)
  unfolding step
  step_is f g = ranged (in_range s) refl
    where
      noded : (k : Kind) (b : Bool) → called (class_of k) s.count e.node ≡ b → T (in_range s) → kind_of e.kind ≡ some k → G (at_node b k e.node s)
      noded k true c r i = let t : Reaches e s k = record { in-range = r; kind = i; node = rw c tt } in
          via-is G (part (class_of k) e.node) (rule k e.node) s (λ a d. f a (refusal e s k t a d)) (g k t)
      noded k false c r i = f wrong_node (wrong-node k r i (rw c tt))

      kinded : (o : Option Kind) → kind_of e.kind ≡ o → T (in_range s) → G (of_kind o e.node s)
      kinded none i r = f unknown_kind (unknown-kind r i)
      kinded (some k) i r = noded k (called (class_of k) s.count e.node) refl r i

      ranged : (b : Bool) → in_range s ≡ b → G (of_state b e s)
      ranged true i = kinded (kind_of e.kind) refl (rw i tt)
      ranged false i = f out_of_range (out-of-range (rw i tt))

-- The answer given is one that the table gives.
pub given : (e : Event) (s : State) → Answered e s (step e s).answer
given e s = step_is (λ x. Answered e s x.answer) e s (λ a h. h) (λ k c p. step-done k c p.allowed p.term p.history p.queues)

-- A rule that is reached acts.
pub reached : (e : Event) (s : State) (k : Kind) → Reaches e s k → step e s ≡ act k e.node s
unfolding step
reached e s k c = rw ((is-yes (in_range s)).to c.in-range, c.kind, (is-yes (called (class_of k) s.count e.node)).to c.node)

answers : (e : Event) (s : State) (k : Kind) → Reaches e s k → (o : Out ℕ (Writes (class_of k))) → Decided (rule k e.node) (sees k e.node s) o
    → step e s ≡ settle (part (class_of k) e.node) s o
answers e s k c o d = reached e s k c ∙ ap (settle (part (class_of k) e.node) s) (decides (rule k e.node) (sees k e.node s) d)

-- A rule that is reached and passes is done: its effect is put.
pub does : (e : Event) (s : State) (k : Kind) → Reaches e s k → Passes (rule k e.node) (sees k e.node s) → step e s ≡ record { answer = step_done; state = after k e.node s }
does e s k c p = answers e s k c _ (passed p)

-- Whatever the table gives is the answer.
pub only : (e : Event) (s : State) {a : ℕ} → Answered e s a → (step e s).answer ≡ a
unfolding step
only e s (step-done k c x t h q) = ap (λ r. r.answer) (does e s k c (record { allowed = x; term = t; history = h; queues = q }))
only e s (out-of-range r) = rw ((is-not (in_range s)).to r)
only e s (unknown-kind r i) = rw ((is-yes (in_range s)).to r, i)
only e s (wrong-node k r i n) = rw ((is-yes (in_range s)).to r, i, (is-not (called (class_of k) s.count e.node)).to n)
only e s (not-allowed k c x) = ap (λ r. r.answer) (answers e s k c _ (barred x))
only e s (term-limit k c x t) = ap (λ r. r.answer) (answers e s k c _ (no-term x t))
only e s (history-full k c x t h) = ap (λ r. r.answer) (answers e s k c _ (no-history x t h))
only e s (queue-full k c x t h q) = ap (λ r. r.answer) (answers e s k c _ (no-queue x t h q))
