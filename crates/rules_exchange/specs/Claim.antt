-- Claim 3, as a statement: the order in which independent neighbours come does not matter. `Exchange` proves it. Assumes nothing.
use Rattle.std.specs.Prelude.{◌≡◌, List, [], ◌∷◌, ℕ, zero, suc, T}
use Rattle.rules.specs.State.{State}
use Rattle.rules.specs.Range.{in_range}
use Rattle.rules.specs.Step.{Event, step}
use Rattle.rules.specs.Run.{run}
use Rattle.rules_exchange.specs.Independent.{independent}

-- ---- exchanging neighbours in any list

module _ {A : Type 0} where
  -- The elements at places i and i + 1 are exchanged; places count from 0. Where there is no such pair, nothing changes.
  abbrev pub swap_at : ℕ → List A → List A
  swap_at i [] = []
  swap_at zero (x ∷ []) = x ∷ []
  swap_at zero (x ∷ y ∷ l) = y ∷ x ∷ l
  swap_at (suc i) (x ∷ l) = x ∷ swap_at i l

  -- Any number of exchanges, one after another.
  abbrev pub swaps : List ℕ → List A → List A
  swaps [] l = l
  swaps (i ∷ is) l = swaps is (swap_at i l)

  -- The elements at places i and i + 1 are there, and in the relation.
  abbrev pub Neighbours : (A → A → Type 0) → ℕ → List A → Type 0
  Neighbours R i [] = ⊥
  Neighbours R zero (x ∷ []) = ⊥
  Neighbours R zero (x ∷ y ∷ l) = R x y
  Neighbours R (suc i) (x ∷ l) = Neighbours R i l

  -- Each exchange is of neighbours that are in the relation when their turn comes.
  abbrev pub Allowed : (A → A → Type 0) → List ℕ → List A → Type 0
  Allowed R [] l = Unit {0}
  Allowed R (i ∷ is) l = Neighbours R i l × Allowed R is (swap_at i l)

-- ---- the claim

-- The steps exchanged at the places `is` leave the same state, with the same history; and the answers are those from before, exchanged at the same
-- places: each step has the answer that it had.
pub record Exchanged (s : State) (es : List Event) (is : List ℕ) : Type 0 where
  pub state : (run step s (swaps is es)).state ≡ (run step s es).state
  pub history : (run step s (swaps is es)).state.history ≡ (run step s es).state.history
  pub answers : (run step s (swaps is es)).answer ≡ swaps is (run step s es).answer

-- From any state in range, and for any number of exchanges.
abbrev pub Claim3 : Type 0
Claim3 = (s : State) (es : List Event) (is : List ℕ) → T (in_range s) → Allowed (λ e f. T (independent s.count e f)) is es → Exchanged s es is
