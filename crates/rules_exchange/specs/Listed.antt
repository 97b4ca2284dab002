-- The parts of two steps that a line of the list names lie apart, where each line says so: `listed-apart` in proofs/. Assumes nothing.
use Rattle.std.proofs.Common.{eqb→eq}
use Rattle.std.specs.Prelude.{Bool, true, false, ◌||◌, ℕ, T, eqb}
use Rattle.std.proofs.Math.Option.{Option, none, some}
use mathlib.Core.List.{List, [], ◌∷◌}
use Rattle.rules.specs.Queues.{has}
use Rattle.rules.specs.Parts.{Class, part}
use Rattle.rules.specs.Rules.{Kind, class_of}
use Rattle.rules.specs.Step.{Event, kind_of, called}
use Rattle.rules_laws.specs.All.{All}
use Rattle.rules_laws.specs.Tests.{◌&◌, as-is}
use Rattle.rules_exchange.specs.Independent.{Line, admits, names, listed}
use Rattle.rules_exchange.specs.Apart.{Apart}

-- ---- from classes to the numbers of kinds

-- Q holds of the kind's class, where there is such a kind.
abbrev pub Of : (Class → Type 0) → Option Kind → Type 0
Of Q none = Unit {0}
Of Q (some k) = Q (class_of k)

-- Q holds of the class of each kind in the list.
abbrev pub Each : (Class → Type 0) → List ℕ → Type 0
Each Q ks = All (λ k. Of Q (kind_of k)) ks

pub either : {P : Type 0} (a b : Bool) → (T a → P) → (T b → P) → T (a || b) → P
either true b f g h = f h
either false b f g h = g h

each : (Q : Class → Type 0) (ks : List ℕ) → Each Q ks → (k : ℕ) → T (has k ks) → Of Q (kind_of k)
unfolding has
each Q [] a k h = absurd h
each Q (x ∷ ks) a k h = either (eqb k x) (has k ks) (λ t. rw (eqb→eq k x t) a.0) (each Q ks a.1 k) h

-- ---- the list, for a step at node n and one at node m

module _ (count n m : ℕ) where
  -- The parts of two classes that call for these nodes lie apart.
  abbrev pub Pair : Class → Class → Type 0
  Pair x y = T (called x count n) → T (called y count m) → Apart (part x n) (part y m)

  -- What a line says of parts.
  abbrev pub Says : Line → Type 0
  Says l = T (admits l n m) → Each (λ x. Each (Pair x) l.those) l.these

-- ---- two steps that are listed

map_of : {Q Q' : Class → Type 0} (o : Option Kind) → ((x : Class) → Q x → Q' x) → Of Q o → Of Q' o
map_of none f q = tt
map_of (some k) f q = f (class_of k) q

module _ (count : ℕ) (e f : Event) where
  abbrev Lies : Class → Class → Type 0
  Lies = Pair count e.node f.node

  -- The parts of the two steps lie apart.
  abbrev pub Both : Type 0
  Both = Of (λ x. Of (Lies x) (kind_of f.kind)) (kind_of e.kind)

  pair : (these those : List ℕ) → Each (λ x. Each (Lies x) those) these → T (has e.kind these) → T (has f.kind those) → Both
  pair these those a h k = map_of (kind_of e.kind) (λ x b. each (Lies x) those b f.kind k) (each (λ x. Each (Lies x) those) these a e.kind h)

  line : (l : Line) → Says count e.node f.node l → T (names l e f) → Both
  line l a h =
      let t = (as-is (has e.kind l.these) & as-is (has f.kind l.those) & as-is (admits l e.node f.node)).to h in
      pair l.these l.those (a t.1) t.0.0 t.0.1

  pub among : (ls : List Line) → All (Says count e.node f.node) ls → T (listed ls e f) → Both
  unfolding listed
  among [] a h = absurd h
  among (l ∷ ls) a h = either (names l e f) (listed ls e f) (line l a.0) (among ls a.1) h
