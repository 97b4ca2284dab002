-- Independence and sameness of steps, as relations: independence goes both ways and no step is independent of itself. Assumes nothing.
use Rattle.std.specs.Prelude.{◌≡◌, refl, Bool, true, false, not, ◌&&◌, ◌||◌, List, [], ◌∷◌, ℕ, T, eqb}
use Rattle.std.proofs.Common.{ap₂, eqb→eq, eq-eqb}
use Rattle.std.proofs.Math.Bool.{and_comm, or_comm, and-false}
use Rattle.rules.specs.Queues.{has}
use Rattle.rules.specs.Range.{all}
use Rattle.rules.specs.Step.{Event}
use Rattle.rules_laws.specs.Tests.{◌&◌, as-is, is_eq, is-not}
use Rattle.rules_exchange.specs.Independent.{Line, lines, names, listed, exists, independent}
use Rattle.rules_exchange.specs.Listed.{either}
use Rattle.merge_verdict.specs.Verdict.{same_event}

-- ---- the same step

pub same-eq : (e f : Event) → T (same_event e f) → e ≡ f
same-eq e f t =
    let p = (is_eq e.kind f.kind & is_eq e.node f.node).to t in
    ap₂ (λ (k n : ℕ). record { kind = k; node = n }) p.0 p.1

pub same_refl : (e : Event) → same_event e e ≡ true
same_refl e = rw (eq-eqb e.kind e.kind refl, eq-eqb e.node e.node refl)

-- ---- independence goes both ways

pub independent-sym : (count : ℕ) (e f : Event) → independent count e f ≡ independent count f e
unfolding independent
independent-sym count e f = ap₂ ◌&&◌ (and_comm (exists count e) (exists count f)) (or_comm (listed lines e f) (listed lines f e))

-- ---- and no step is independent of itself

-- No kind is on both sides of the line, unless it asks for different nodes.
abbrev one_sided : Line → Bool
one_sided l = l.differ || all (λ k. not (has k l.those)) l.these

one_side : (these those : List ℕ) → T (all (λ k. not (has k those)) these) → (k : ℕ) → T (has k these) → has k those ≡ false
unfolding all has
one_side [] those t k h = absurd h
one_side (x ∷ these) those t k h =
    let p = (is-not (has x those) & as-is (all (λ k. not (has k those)) these)).to t in
    either (eqb k x) (has k these) (λ e. rw (eqb→eq k x e) p.0) (one_side these those p.1 k) h

names-self : (l : Line) → T (one_sided l) → (e : Event) → names l e e ≡ false
names-self l t e = go l.differ refl (has e.kind l.these) refl t
  where
    go : (d : Bool) → l.differ ≡ d → (h : Bool) → has e.kind l.these ≡ h → T (d || all (λ k. not (has k l.those)) l.these)
        → h && has e.kind l.those && (not d || not (eqb e.node e.node)) ≡ false
    go true i h j s = rw (eq-eqb e.node e.node refl) (and-false (h && has e.kind l.those))
    go false i true j s = rw (one_side l.these l.those s e.kind (rw j tt))
    go false i false j s = refl

listed-self : (ls : List Line) → T (all one_sided ls) → (e : Event) → listed ls e e ≡ false
unfolding listed all
listed-self [] t e = refl
listed-self (l ∷ ls) t e =
    let p = (as-is (one_sided l) & as-is (all one_sided ls)).to t in
    rw (names-self l p.0 e) (listed-self ls p.1 e)

pub independent-self : (count : ℕ) (e : Event) → independent count e e ≡ false
unfolding independent all has
independent-self count e = rw (listed-self lines tt e) (and-false (exists count e && exists count e))
