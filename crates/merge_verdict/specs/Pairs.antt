-- The merge verdict by pairs: each two dependent steps have the same occurrences in the same order in both lists. `Projections` proves it. Assumes nothing.
use Rattle.std.specs.Prelude.{◌≡◌, ◌↔◌, Bool, true, false, ◌||◌, List, [], ◌∷◌, ℕ, T}
use Rattle.rules.specs.Step.{Event}
use Rattle.rules_exchange.specs.Independent.{independent}
use Rattle.merge_verdict.specs.Verdict.{same_event, same_merge}

abbrev pub kept : {A : Type 0} → Bool → A → List A → List A
kept true x l = x ∷ l
kept false x l = l

-- What is left of a list where only the elements that pass the test are kept.
abbrev pub only : {A : Type 0} → (A → Bool) → List A → List A
only p [] = []
only p (x ∷ l) = kept (p x) x (only p l)

-- The occurrences of two steps.
abbrev pub only_pair : Event → Event → List Event → List Event
only_pair a b = only (λ x. same_event a x || same_event b x)

-- A step depends on itself, so the pair a, a counts its occurrences.
abbrev pub ByPairs : Type 0
ByPairs = (count : ℕ) (es fs : List Event) → T (same_merge count es fs) ↔ ((a b : Event) → independent count a b ≡ false → only_pair a b es ≡ only_pair a b fs)
