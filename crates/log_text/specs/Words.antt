-- The words of the text that only this program has, beside those of a pair.
use Rattle.std.specs.Prelude.{List, [], ◌∷◌, ℕ}
use Rattle.any_text.specs.Lines.{blank}

-- "open"
abbrev pub unsettled : List ℕ
unsettled = 111 ∷ 112 ∷ 101 ∷ 110 ∷ []

-- "more"
abbrev pub more : List ℕ
more = 109 ∷ 111 ∷ 114 ∷ 101 ∷ []

-- "refused line"
abbrev pub refused_line : List ℕ
refused_line = 114 ∷ 101 ∷ 102 ∷ 117 ∷ 115 ∷ 101 ∷ 100 ∷ blank ∷ 108 ∷ 105 ∷ 110 ∷ 101 ∷ []

-- "refused long"
abbrev pub refused_long : List ℕ
refused_long = 114 ∷ 101 ∷ 102 ∷ 117 ∷ 115 ∷ 101 ∷ 100 ∷ blank ∷ 108 ∷ 111 ∷ 110 ∷ 103 ∷ []
