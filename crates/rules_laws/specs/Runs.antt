-- A run with one event more behind it, and how many answers a run gives, for any step. Assumes nothing.
use Rattle.std.specs.Prelude.{◌≡◌, suc, length}
use Rattle.std.proofs.Math.Path.{refl, ap}
use mathlib.Core.List.{List, [], ◌∷◌}
use Rattle.rules.specs.Queues.{push}
use Rattle.rules.specs.Part.{Result}
use Rattle.rules.specs.Run.{run}

module _ {A S E : Type 0} (f : E → S → Result A S) where
  pub run-state : (s : S) (es : List E) (e : E) → (run f s (push e es)).state ≡ (f e (run f s es).state).state
  unfolding push
  run-state s [] e = refl
  run-state s (x ∷ es) e = run-state (f x s).state es e

  pub run-answer : (s : S) (es : List E) (e : E) → (run f s (push e es)).answer ≡ push (f e (run f s es).state).answer (run f s es).answer
  unfolding push
  run-answer s [] e = refl
  run-answer s (x ∷ es) e = ap (λ (l : List A). (f x s).answer ∷ l) (run-answer (f x s).state es e)

  pub run_length : (s : S) (es : List E) → length (run f s es).answer ≡ length es
  run_length s [] = refl
  run_length s (x ∷ es) = ap suc (run_length (f x s).state es)
