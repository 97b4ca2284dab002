-- A line of text: a word, then numbers, each behind a blank. And lines one behind the other.
use Rattle.std.specs.Prelude.{List, [], ◌∷◌, ◌++◌, ℕ, zero, suc}
use Rattle.any_text.specs.Decimal.{decimal}
use Rattle.any_text.specs.Lines.{blank, newline}

unfoldable pub spaced : List ℕ → List ℕ
spaced [] = []
spaced (n ∷ ns) = (blank ∷ []) ++ decimal n ++ spaced ns

unfoldable pub line : List ℕ → List ℕ → List ℕ
line word ns = word ++ spaced ns ++ (newline ∷ [])

-- A line that begins with a number in place of a word.
unfoldable pub row : ℕ → List ℕ → List ℕ
row n ns = decimal n ++ (spaced ns ++ (newline ∷ []))

-- The first n of the lines f 0, f 1, f 2 and so on.
unfoldable pub lines : (ℕ → List ℕ) → ℕ → List ℕ
lines f zero = []
lines f (suc n) = lines f n ++ f n
