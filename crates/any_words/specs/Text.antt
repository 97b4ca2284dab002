-- The lines of a text, the words of a line, and the numbers that words say.
use Rattle.std.specs.Prelude.{Bool, true, false, cond, ◌&&◌, ◌||◌, List, [], ◌∷◌, Option, Some, None, ℕ, eqb, leb, length}
use Rattle.rules.specs.Range.{all}
use Rattle.any_text.specs.Decimal.{said_after}

-- ---- bytes

abbrev pub is_newline : ℕ → Bool
is_newline b = eqb b 10

-- A space, a tab or a carriage return.
abbrev pub is_blank : ℕ → Bool
is_blank b = eqb b 32 || eqb b 9 || eqb b 13

-- From "0" to "9".
abbrev pub is_digit : ℕ → Bool
is_digit b = leb 48 b && leb b 57

-- ---- pieces

abbrev pub cut : Bool → ℕ → List (List ℕ) → List (List ℕ)
cut true b ps = [] ∷ ps
cut false b [] = (b ∷ []) ∷ []
cut false b (p ∷ ps) = (b ∷ p) ∷ ps

-- The pieces of a list between the bytes that pass the test: one more than there are such bytes.
unfoldable pub pieces : (ℕ → Bool) → List ℕ → List (List ℕ)
pieces test [] = [] ∷ []
pieces test (b ∷ l) = cut (test b) b (pieces test l)

abbrev pub lines : List ℕ → List (List ℕ)
lines text = pieces is_newline text

-- The pieces that are not empty.
abbrev pub full : List (List ℕ) → List (List ℕ)
full [] = []
full ([] ∷ ps) = full ps
full ((b ∷ p) ∷ ps) = (b ∷ p) ∷ full ps

abbrev pub words : List ℕ → List (List ℕ)
words line = full (pieces is_blank line)

unfoldable pub same : List ℕ → List ℕ → Bool
same [] [] = true
same [] (b ∷ w) = false
same (a ∷ v) [] = false
same (a ∷ v) (b ∷ w) = eqb a b && same v w

-- ---- numbers

-- A word of at most 19 digits.
unfoldable pub number_of : List ℕ → Option ℕ
number_of w = cond (leb (length w) 19 && all is_digit w) (Some (said_after 0 w)) None
