-- What a line of a log says, by the numbers on it.
use Rattle.std.specs.Prelude.{List, [], ◌∷◌, Option, Some, None, ℕ}
use Rattle.any_words.specs.Text.{words, number_of}
use Rattle.log_read.specs.declared.Line.{Line}
use Rattle.log_read.specs.declared.Line.TheVariants.{Blank, Two, Four, Other}

abbrev pub before : Option ℕ → Option (List ℕ) → Option (List ℕ)
before (Some n) (Some ns) = Some (n ∷ ns)
before (Some n) None = None
before None o = None

-- All of them, unless one is bad.
abbrev pub numbers : List (List ℕ) → Option (List ℕ)
numbers [] = Some []
numbers (w ∷ ws) = before (number_of w) (numbers ws)

abbrev pub sorted : Option (List ℕ) → Line
sorted None = Other
sorted (Some []) = Blank
sorted (Some (a ∷ [])) = Other
sorted (Some (a ∷ b ∷ [])) = Two a b
sorted (Some (a ∷ b ∷ c ∷ [])) = Other
sorted (Some (a ∷ b ∷ c ∷ d ∷ [])) = Four a b c d
sorted (Some (a ∷ b ∷ c ∷ d ∷ e ∷ l)) = Other

unfoldable pub line_of : List ℕ → Line
line_of line = sorted (numbers (words line))
