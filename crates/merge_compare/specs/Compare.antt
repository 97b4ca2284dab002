-- Comparing two merges, with names: the records of the first list are taken, in turn, out of the second, and where one cannot be taken it is said why.
-- Places count from 0 here and from 1 in what is found.
use Rattle.std.specs.Prelude.{Bool, List, [], ◌∷◌, ℕ, ◌+◌}
use Rattle.std.proofs.Math.Option.{Option, none, some}
use Rattle.rules.specs.Step.{Event}
use Rattle.rules_exchange.specs.Independent.{independent}
use Rattle.merge_verdict.specs.Verdict.{Pulled, taken, blocked, missing, pull, same_event}
use Rattle.any_search.specs.Places.{seek}
use Rattle.merge_compare.specs.declared.Verdict.{Verdict}
use Rattle.merge_compare.specs.declared.Verdict.TheVariants as V

-- ---- what is found

-- Exchanges of independent neighbours lead from the one list to the other.
abbrev pub same : Verdict
same = V.Same

-- Two dependent records stand in the other order: a before b in the first list, b before a in the second.
abbrev pub order : ℕ → ℕ → ℕ → ℕ → Verdict
order a b a' b' = V.Order (a + 1) (b + 1) (a' + 1) (b' + 1)

-- A record of the first list that the second lacks.
abbrev pub only_first : ℕ → Verdict
only_first a = V.OnlyFirst (a + 1)

-- A record of the second list that the first lacks.
abbrev pub only_second : ℕ → Verdict
only_second b = V.OnlySecond (b + 1)

-- ---- the comparison, of the records here with those there, among `count` nodes

module _ (count : ℕ) (here there : ℕ → Event) where
  abbrev pub free : ℕ → ℕ → Bool
  free a b = independent count (here a) (there b)

  abbrev pub equal : ℕ → ℕ → Bool
  equal a b = same_event (here a) (there b)

  -- Record a may not pass record b. Is there an a in the second list, and a b in the first?
  abbrev pub obstacle : ℕ → ℕ → Option ℕ → Option ℕ → Verdict
  obstacle a b none first = only_first a
  obstacle a b (some second) none = only_second b
  obstacle a b (some second) (some first) = order a first second b

  -- Record a, with those behind it, is looked for among what is left of the second list.
  abbrev pub looked : (List ℕ → Verdict) → ℕ → List ℕ → List ℕ → Pulled ℕ → Verdict
  looked next a behind left (taken rest) = next rest
  looked next a behind left (blocked b) = obstacle a b (seek (equal a) left) (seek (λ x. equal x b) behind)
  looked next a behind left missing = only_first a

  unfoldable pub compare : List ℕ → List ℕ → Verdict
  compare [] [] = same
  compare [] (b ∷ left) = only_second b
  compare (a ∷ behind) left = looked (compare behind) a behind left (pull (free a) (equal a) left)
