-- The words of the text.
use Rattle.std.specs.Prelude.{List, [], ◌∷◌, ℕ}
use Rattle.any_text.specs.Lines.{blank}

-- "same"
abbrev pub same : List ℕ
same = 115 ∷ 97 ∷ 109 ∷ 101 ∷ []

-- "order"
abbrev pub order : List ℕ
order = 111 ∷ 114 ∷ 100 ∷ 101 ∷ 114 ∷ []

-- "only first"
abbrev pub only_first : List ℕ
only_first = 111 ∷ 110 ∷ 108 ∷ 121 ∷ blank ∷ 102 ∷ 105 ∷ 114 ∷ 115 ∷ 116 ∷ []

-- "only second"
abbrev pub only_second : List ℕ
only_second = 111 ∷ 110 ∷ 108 ∷ 121 ∷ blank ∷ 115 ∷ 101 ∷ 99 ∷ 111 ∷ 110 ∷ 100 ∷ []

-- "writes"
abbrev pub writes : List ℕ
writes = 119 ∷ 114 ∷ 105 ∷ 116 ∷ 101 ∷ 115 ∷ []

-- "agrees"
abbrev pub agrees : List ℕ
agrees = 97 ∷ 103 ∷ 114 ∷ 101 ∷ 101 ∷ 115 ∷ []

-- "differs"
abbrev pub differs : List ℕ
differs = 100 ∷ 105 ∷ 102 ∷ 102 ∷ 101 ∷ 114 ∷ 115 ∷ []

-- "refused first"
abbrev pub refused_first : List ℕ
refused_first = 114 ∷ 101 ∷ 102 ∷ 117 ∷ 115 ∷ 101 ∷ 100 ∷ blank ∷ 102 ∷ 105 ∷ 114 ∷ 115 ∷ 116 ∷ []

-- "refused second"
abbrev pub refused_second : List ℕ
refused_second = 114 ∷ 101 ∷ 102 ∷ 117 ∷ 115 ∷ 101 ∷ 100 ∷ blank ∷ 115 ∷ 101 ∷ 99 ∷ 111 ∷ 110 ∷ 100 ∷ []

-- "refused nodes"
abbrev pub refused_nodes : List ℕ
refused_nodes = 114 ∷ 101 ∷ 102 ∷ 117 ∷ 115 ∷ 101 ∷ 100 ∷ blank ∷ 110 ∷ 111 ∷ 100 ∷ 101 ∷ 115 ∷ []
