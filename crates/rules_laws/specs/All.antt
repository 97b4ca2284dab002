-- A property of every element of a list.
use Rattle.std.specs.Prelude.{List, [], ◌∷◌}

abbrev pub All : {A : Type 0} → (A → Type 0) → List A → Type 0
All P [] = Unit {0}
All P (x ∷ l) = P x × All P l
