-- Letters say all that independence asks of steps. Assumes nothing.
use Rattle.std.specs.Prelude.{◌≡◌, refl, Bool, true, cond, ◌&&◌, ℕ, ◌+◌, ◌*◌, ◌/◌, ◌%◌, ◌≤◌, ◌<◌, leb, ltb}
use Rattle.std.proofs.Common.{sym, ap₂, ◌∙◌, arith}
use Rattle.std.proofs.Math.Bool.{false, and-false}
use Rattle.std.proofs.Math.Decide.{dec_lt}
use borrow.Author.Tests.{ltb-true, ltb-false, lt-leb, ne_eqb}
use Rattle.rules.specs.Limits.{most_nodes}
use Rattle.rules.specs.Range.{within}
use Rattle.rules.specs.Step.{Event}
use Rattle.rules_exchange.specs.Independent.{exists, independent}
use Rattle.merge_independence.specs.Asks.{event}
use Rattle.merge_independence.specs.Kinds.{none-exists, at-node, at_none, past_all}
use Rattle.merge_letters.specs.Letters.{letter_of, step_for}

-- ---- how large a letter is

pub letter-small : (e : Event) → letter_of e < 126
letter-small e = go (ltb e.kind 14) refl (ltb e.node 9) refl
  where
    go : (a : Bool) → ltb e.kind 14 ≡ a → (b : Bool) → ltb e.node 9 ≡ b → cond (a && b) (9 * e.kind + e.node) 0 < 126
    go true i true j = let k : e.kind < 14 = ltb-true _ _ i in let n : e.node < 9 = ltb-true _ _ j in omega arith
    go true i false j = omega arith
    go false i b j = omega arith

-- ---- a step is the one that its letter stands for, or neither exists

pub data Known (count : ℕ) (e f : Event) : Type 0 where
  known : f ≡ e → Known count e f
  unknown : exists count e ≡ false → exists count f ≡ false → Known count e f

module _ (count : ℕ) (few : count ≤ most_nodes) where
  -- no kind calls for a node above 8
  too_far : (kind node : ℕ) → 9 ≤ node → exists count (event kind node) ≡ false
  unfolding within
  too_far kind node h = go (dec_lt 0 kind) (dec_lt kind 12) (dec_lt kind 14)
    where
      go : Dec (0 < kind) → Dec (kind < 12) → Dec (kind < 14) → exists count (event kind node) ≡ false
      go (no a) y z = none-exists count node kind (omega arith)
      go (yes a) (yes b) z = at-node count node kind a b ∙ rw (lt-leb node count (omega arith)) (and-false (leb 1 node))
      go (yes a) (no b) (yes c) = at_none count node kind (omega arith) c ∙ ne_eqb node 0 (λ e. omega arith)
      go (yes a) (no b) (no c) = past_all count node kind (omega arith)

  pub stands : (e : Event) → Known count e (step_for (letter_of e))
  stands e = go (ltb e.kind 14) refl (ltb e.node 9) refl
    where
      none : exists count (step_for 0) ≡ false
      none = none-exists count 0 0 refl

      go : (a : Bool) → ltb e.kind 14 ≡ a → (b : Bool) → ltb e.node 9 ≡ b → Known count e (step_for (cond (a && b) (9 * e.kind + e.node) 0))
      go true i true j =
          let n : e.node < 9 = ltb-true _ _ j in
          let p : (9 * e.kind + e.node) / 9 ≡ e.kind = omega arith in
          let q : (9 * e.kind + e.node) % 9 ≡ e.node = omega arith in
          known (ap₂ (λ (k n : ℕ). record { kind = k; node = n }) p q)
      go true i false j = unknown (too_far e.kind e.node (ltb-false _ _ j)) none
      go false i b j = unknown (past_all count e.node e.kind (ltb-false _ _ i)) none

-- ---- independence

neither : (count : ℕ) (e f : Event) → exists count f ≡ false → independent count e f ≡ false
unfolding independent
neither count e f h = rw (h, and-false (exists count e))

either_way : (count : ℕ) (e f : Event) → exists count e ≡ false → independent count e f ≡ false
unfolding independent
either_way count e f h = rw h

pub by-letters : (count : ℕ) → count ≤ most_nodes → (e f : Event) → independent count (step_for (letter_of e)) (step_for (letter_of f)) ≡ independent count e f
by-letters count few e f = go (step_for (letter_of e)) (stands count few e) (step_for (letter_of f)) (stands count few f)
  where
    go : (d : Event) → Known count e d → (g : Event) → Known count f g → independent count d g ≡ independent count e f
    go d (unknown a b) g k = either_way count d g b ∙ sym (either_way count e f a)
    go d (known a) g (unknown b c) = neither count d g c ∙ sym (neither count e f b)
    go d (known a) g (known b) = ap₂ (independent count) a b
