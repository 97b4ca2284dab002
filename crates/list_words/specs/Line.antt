-- What a line of steps in text says.
use Rattle.std.specs.Prelude.{Bool, cond, List, [], ◌∷◌, Option, Some, None, ℕ, suc, eqb, leb, get_or}
use Rattle.any_words.specs.Text.{pieces, words, same, number_of}
use Rattle.list_words.specs.declared.Line.{Line}
use Rattle.list_words.specs.declared.Line.TheVariants.{Blank, Nodes, Step, Other}
use Rattle.list_words.specs.Names.{bytes, names}

-- ---- words

abbrev pub small : Option ℕ → Option ℕ
small (Some n) = cond (leb n 255) (Some n) None
small None = None

-- A number up to 255.
abbrev pub byte_of : List ℕ → Option ℕ
byte_of w = small (number_of w)

-- Where a word stands in a list whose first element has number k.
abbrev pub place_of : List ℕ → ℕ → List (List ℕ) → Option ℕ
place_of w k [] = None
place_of w k (n ∷ ns) = cond (same w n) (Some k) (place_of w (suc k) ns)

unfoldable pub kind_named : List ℕ → Option ℕ
kind_named w = place_of w 0 names

abbrev pub or_name : Option ℕ → List ℕ → Option ℕ
or_name (Some k) w = Some k
or_name None w = kind_named w

-- A kind, by its number or by its name.
abbrev pub kind_said : List ℕ → Option ℕ
kind_said w = or_name (byte_of w) w

-- ---- lines

abbrev pub step : Option ℕ → ℕ → Line
step (Some k) n = Step k n
step None n = Other

-- A word, and a number behind it.
abbrev pub said : List ℕ → Option ℕ → Line
said w (Some n) = cond (same w (bytes "nodes")) (Nodes n) (step (kind_said w) n)
said w None = Other

abbrev pub of_words : List (List ℕ) → Line
of_words [] = Blank
of_words (v ∷ []) = Other
of_words (v ∷ w ∷ []) = said v (byte_of w)
of_words (v ∷ w ∷ x ∷ ws) = Other

-- "#" starts a comment.
abbrev pub is_hash : ℕ → Bool
is_hash b = eqb b 35

abbrev pub uncommented : List ℕ → List ℕ
uncommented line = get_or (pieces is_hash line) 0 []

unfoldable pub line_of : List ℕ → Line
line_of line = of_words (words (uncommented line))
