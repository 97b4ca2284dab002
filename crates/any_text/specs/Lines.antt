-- The lines of the program's output.
use Rattle.std.specs.Prelude.{List, [], ◌∷◌, ◌++◌, ℕ}
use Rattle.any_text.specs.Decimal.{decimal}

abbrev pub blank : ℕ
blank = 32

abbrev pub newline : ℕ
newline = 10

-- A number with the byte that ends it.
abbrev pub number : ℕ → ℕ → List ℕ
number n ending = decimal n ++ (ending ∷ [])

-- Place, kind, node and answer of a record.
unfoldable pub record_line : ℕ → ℕ → ℕ → ℕ → List ℕ
record_line place kind node answer = number place blank ++ number kind blank ++ number node blank ++ number answer newline

-- "writes " and how many there are.
unfoldable pub writes_line : ℕ → List ℕ
writes_line n = (119 ∷ 114 ∷ 105 ∷ 116 ∷ 101 ∷ 115 ∷ blank ∷ []) ++ number n newline

-- Node and term of a write.
unfoldable pub write_line : ℕ → ℕ → List ℕ
write_line node term = number node blank ++ number term newline

-- "refused " and why.
unfoldable pub refused_line : ℕ → List ℕ
refused_line n = (114 ∷ 101 ∷ 102 ∷ 117 ∷ 115 ∷ 101 ∷ 100 ∷ blank ∷ []) ++ number n newline
