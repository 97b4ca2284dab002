-- The names of the kinds.
use Rattle.std.specs.Prelude.{List, [], ◌∷◌, ℕ, get_or}
use Prim.Native.Char.{code}
use Prim.Native.String.{String, [] as end, ◌∷◌ as ◌then◌}

-- The bytes of a word.
abbrev pub bytes : String → List ℕ
bytes end = []
bytes (letter then word) = code letter ∷ bytes word

-- At the numbers of the kinds, from 1.
unfoldable pub names : List (List ℕ)
names = [] ∷ bytes "join" ∷ bytes "leave" ∷ bytes "learn" ∷ bytes "send-update" ∷ bytes "receive-update" ∷ bytes "send-write" ∷ bytes "receive-write"
    ∷ bytes "connect" ∷ bytes "close" ∷ bytes "handle-update" ∷ bytes "handle-write" ∷ bytes "shutdown" ∷ bytes "startup" ∷ []

-- Nothing where there is no such kind.
abbrev pub name_of : ℕ → List ℕ
name_of k = get_or names k []
