-- Places, one after another, and the first of them that passes a test.
use Rattle.std.specs.Prelude.{Bool, true, false, List, [], ◌∷◌, ℕ, zero, suc}
use Rattle.std.proofs.Math.Option.{Option, none, some}

-- n places, from a on.
abbrev pub from : ℕ → ℕ → List ℕ
from a zero = []
from a (suc n) = a ∷ from (suc a) n

abbrev pub found : Bool → ℕ → Option ℕ → Option ℕ
found true x o = some x
found false x o = o

-- The first that passes the test.
abbrev pub seek : (ℕ → Bool) → List ℕ → Option ℕ
seek test [] = none
seek test (x ∷ l) = found (test x) x (seek test l)
