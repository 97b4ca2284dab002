-- The line about two records of a merge, the first of which stands before the other.
use Rattle.std.specs.Prelude.{cond, List, [], ◌∷◌, ◌++◌, ℕ}
use Rattle.any_text.specs.Line.{line}
use Rattle.merge_verdict.specs.Clocks.{clocks}
use Rattle.log_read.specs.Log.{Row, row_numbers}

-- "doubt"
abbrev pub doubt : List ℕ
doubt = 100 ∷ 111 ∷ 117 ∷ 98 ∷ 116 ∷ []

-- "against"
abbrev pub against : List ℕ
against = 97 ∷ 103 ∷ 97 ∷ 105 ∷ 110 ∷ 115 ∷ 116 ∷ []

-- Whether clocks that are at most `bound` apart allow the two as they stand.
abbrev pub pair_word : ℕ → Row → Row → List ℕ
pair_word bound x y = cond (clocks bound x.logged y.logged) doubt against

-- Then line, log, time, kind and node of both.
abbrev pub pair_line : ℕ → Row → Row → List ℕ
pair_line bound x y = line (pair_word bound x y) (row_numbers x ++ row_numbers y)
