-- Claim 3: independent neighbours may be exchanged, any number of times. Assumes nothing.
use Rattle.std.specs.Prelude.{◌≡◌, refl, ◌||◌, ℕ, T}
use Rattle.std.proofs.Common.{ap, ◌∙◌}
use Rattle.std.proofs.Math.Option.{Option, none, some}
use Rattle.rules.specs.State.{State}
use Rattle.rules.specs.Range.{in_range}
use Rattle.rules.specs.Part.{decide}
use Rattle.rules.specs.Parts.{part}
use Rattle.rules.specs.Rules.{Kind, class_of, rule}
use Rattle.rules.specs.Step.{Event, kind_of, called, act, step}
use Rattle.rules_laws.specs.Tests.{◌&◌, as-is}
use Rattle.rules_laws.specs.Answers.{reached}
use Rattle.rules_laws.specs.Steps.{step_keeps, step_count}
use Rattle.rules_exchange.specs.Independent.{lines, listed, calls, exists, independent}
use Rattle.rules_exchange.specs.Claim.{Claim3}
use Rattle.rules_exchange.specs.Apart.{Apart, apart-sym, Commute, via-commute}
use Rattle.rules_exchange.specs.Listed.{either}
use Rattle.rules_exchange.specs.Commutes.{runs-state, runs-answers}
use Rattle.rules_exchange.proofs.Listed.{listed-apart}

-- ---- two independent steps, as rules over parts

-- A step that exists is of a kind that calls for its node.
record Known (count : ℕ) (e : Event) : Type 0 where
  kind : Kind
  is : kind_of e.kind ≡ some kind
  node : T (called (class_of kind) count e.node)

known : (count : ℕ) (e : Event) → T (exists count e) → Known count e
unfolding exists
known count e h = go (kind_of e.kind) refl h
  where
    go : (o : Option Kind) → kind_of e.kind ≡ o → T (calls o count e.node) → Known count e
    go none i t = absurd t
    go (some k) i t = record { kind = k; is = i; node = t }

module _ {count : ℕ} {e f : Event} (k : Known count e) (l : Known count f) where
  one_way : T (listed lines e f) → Apart (part (class_of k.kind) e.node) (part (class_of l.kind) f.node)
  one_way h = rw (k.is, l.is) at (listed-apart count e f h) k.node l.node

-- The parts of the two steps lie apart.
record Parted (count : ℕ) (e f : Event) : Type 0 where
  first : Known count e
  second : Known count f
  apart : Apart (part (class_of first.kind) e.node) (part (class_of second.kind) f.node)

parted : (count : ℕ) (e f : Event) → T (independent count e f) → Parted count e f
unfolding independent
parted count e f h =
    let t = (as-is (exists count e) & as-is (exists count f) & as-is (listed lines e f || listed lines f e)).to h in
    let k = known count e t.0.0 in
    let l = known count f t.0.1 in
    record { first = k; second = l; apart = either (listed lines e f) (listed lines f e) (one_way k l) (λ u. apart-sym (one_way l k u)) t.1 }

-- ---- as steps, at a state in range of `count` nodes

record Good (count : ℕ) (s : State) : Type 0 where
  in-range : T (in_range s)
  nodes : s.count ≡ count

good-step : (count : ℕ) (e : Event) (s : State) → Good count s → Good count (step e s).state
good-step count e s g = record { in-range = step_keeps e s g.in-range; nodes = step_count e s ∙ g.nodes }

acts : (count : ℕ) (e : Event) (k : Known count e) (s : State) → Good count s → step e s ≡ act k.kind e.node s
acts count e k s g = reached e s k.kind (record { in-range = g.in-range; kind = k.is; node = rw g.nodes k.node })

commutes : (count : ℕ) (e f : Event) → T (independent count e f) → (s : State) → Good count s → Commute (step e) (step f) s
commutes count e f h s g =
    let b = parted count e f h in
    let c = via-commute b.apart (decide (rule b.first.kind e.node)) (decide (rule b.second.kind f.node)) s in
    let i = acts count e b.first s g in
    let j = acts count f b.second s g in
    let i' = acts count e b.first (step f s).state (good-step count f s g) in
    let j' = acts count f b.second (step e s).state (good-step count e s g) in
    record { same = rw (i', j', i, j) c.same; first = rw (i', i, j) c.first; second = rw (j', i, j) c.second }

pub exchange : Claim3
exchange s es is r h =
    let count = s.count in
    let g : Good count s = record { in-range = r; nodes = refl } in
    let same = runs-state step (Good count) (good-step count) (λ e f. T (independent count e f)) (commutes count) is es s g h in
    record {
      state = same;
      history = ap (λ t. t.history) same;
      answers = runs-answers step (Good count) (good-step count) (λ e f. T (independent count e f)) (commutes count) is es s g h;
    }
