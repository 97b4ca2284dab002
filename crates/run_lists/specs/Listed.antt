-- Steps as an event list: without note bytes, and with its trailer.
use Rattle.std.specs.Prelude.{List, [], ◌∷◌, ◌++◌, ℕ, ◌/◌, ◌%◌, length}
use Rattle.rules.specs.Step.{Event}

-- Kind and node of each, a byte for a number; every number of a list is below 256.
unfoldable pub flat : List Event → List ℕ
flat [] = []
flat (e ∷ es) = e.kind % 256 ∷ e.node % 256 ∷ flat es

-- The trailer: the first record at 0, so many of them, and the node count.
abbrev pub trailer_bytes : ℕ → ℕ → List ℕ
trailer_bytes n count = 0 ∷ 0 ∷ 0 ∷ 0 ∷ n % 256 ∷ n / 256 ∷ 0 ∷ 0 ∷ count ∷ 0 ∷ 77 ∷ 65 ∷ []

abbrev pub list_of : ℕ → List Event → List ℕ
list_of count es = flat es ++ trailer_bytes (length es) count
