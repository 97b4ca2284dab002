-- The merge verdict: a test that says whether exchanges of independent neighbours lead from one list of steps to another, and what a yes promises.
-- `Exact` proves both. Assumes nothing.
use Rattle.std.specs.Prelude.{◌≡◌, ◌↔◌, Bool, true, false, ◌&&◌, List, [], ◌∷◌, ℕ, T, eqb}
use Rattle.rules.specs.State.{State}
use Rattle.rules.specs.Range.{in_range}
use Rattle.rules.specs.Step.{Event, step}
use Rattle.rules.specs.Run.{run}
use Rattle.rules_exchange.specs.Independent.{independent}
use Rattle.rules_exchange.specs.Claim.{swaps, Allowed}

-- One list is made from another by exchanging neighbours that are in the relation, at these places, one after another.
pub record Exchanges {E : Type 0} (R : E → E → Type 0) (es fs : List E) : Type 0 where
  pub places : List ℕ
  pub allowed : Allowed R places es
  pub ends : swaps places es ≡ fs

-- ---- the test

-- What comes of looking for something in a list: it is taken, and this is left; or it may not pass this element; or it is not there.
pub data Pulled (A : Type 0) : Type 0 where
  taken : List A → Pulled A
  blocked : A → Pulled A
  missing : Pulled A

abbrev pub behind : {A : Type 0} → A → Pulled A → Pulled A
behind x (taken l) = taken (x ∷ l)
behind x (blocked y) = blocked y
behind x missing = missing

-- The head x of x ∷ l is met: may it be passed, is it what is looked for; and what comes of looking in l.
abbrev pub met : {A : Type 0} → Bool → Bool → A → List A → Pulled A → Pulled A
met true wanted x l o = behind x o
met false true x l o = taken l
met false false x l o = blocked x

-- Past all elements that may be passed: what stands there must be the one that is wanted.
abbrev pub pull : {A : Type 0} → (A → Bool) → (A → Bool) → List A → Pulled A
pull free wanted [] = missing
pull free wanted (x ∷ l) = met (free x) (wanted x) x l (pull free wanted l)

abbrev pub when_taken : {A : Type 0} → (List A → Bool) → Pulled A → Bool
when_taken f (taken l) = f l
when_taken f (blocked x) = false
when_taken f missing = false

-- Take the events of the one list, in turn, out of the other, each past those that are free of it. Nothing may be left.
abbrev pub exchangeable : {E : Type 0} → (E → E → Bool) → (E → E → Bool) → List E → List E → Bool
exchangeable free same [] [] = true
exchangeable free same [] (f ∷ fs) = false
exchangeable free same (e ∷ es) fs = when_taken (exchangeable free same es) (pull (free e) (same e) fs)

-- ---- for steps

abbrev pub same_event : Event → Event → Bool
same_event e f = eqb e.kind f.kind && eqb e.node f.node

-- Steps that are independent among `count` nodes.
abbrev pub Independent : ℕ → Event → Event → Type 0
Independent count e f = T (independent count e f)

-- The verdict on two merges.
unfoldable pub same_merge : ℕ → List Event → List Event → Bool
same_merge count es fs = exchangeable (independent count) same_event es fs

-- It is yes exactly where exchanges of independent neighbours lead from the one merge to the other.
abbrev pub Exact : Type 0
Exact = (count : ℕ) (es fs : List Event) → T (same_merge count es fs) ↔ Exchanges (Independent count) es fs

-- Two merges, both run from state s: one last state, one history, and each step the answer that it had.
pub record Same (s : State) (es fs : List Event) : Type 0 where
  pub exchanges : Exchanges (Independent s.count) es fs
  pub state : (run step s fs).state ≡ (run step s es).state
  pub history : (run step s fs).state.history ≡ (run step s es).state.history
  pub answers : (run step s fs).answer ≡ swaps exchanges.places (run step s es).answer

-- A yes promises that, from any state in range.
abbrev pub Promise : Type 0
Promise = (s : State) (es fs : List Event) → T (in_range s) → T (same_merge s.count es fs) → Same s es fs
