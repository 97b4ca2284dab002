-- What the program `write_list` prints for a text: a list, or a line that says why there is none.
use Rattle.std.specs.Prelude.{cond, List, [], ◌∷◌, ◌++◌, ℕ, zero, suc, leb, length}
use Rattle.rules.specs.Step.{Event}
use Rattle.any_text.specs.Decimal.{decimal}
use Rattle.any_text.specs.Lines.{refused_line}
use Rattle.any_text.specs.Line.{line}
use Rattle.any_text.specs.Printed.{Output, printing, refusing}
use Rattle.run_lists.specs.EventList.{longest}
use Rattle.run_lists.specs.Listed.{list_of}
use Rattle.list_write.specs.Write.{write_refusal}
use Rattle.list_words.specs.Names.{bytes}
use Rattle.list_source.specs.Source.{Reading, read_text}

-- The most bytes of a text.
abbrev pub longest_text : ℕ
longest_text = 2097152

-- "refused line 7" where it cannot be read, and otherwise "refused 3 line 7".
abbrev pub line_refused : ℕ → ℕ → List ℕ
line_refused zero k = line (bytes "refused line") (k ∷ [])
line_refused (suc code) k = bytes "refused " ++ decimal (suc code) ++ line (bytes " line") (k ∷ [])

-- Of steps that were read: the list, or the writer's refusal.
abbrev pub listed : ℕ → ℕ → List Event → Output
listed zero nodes es = printing (list_of nodes es)
listed (suc code) nodes es = refusing (refused_line (suc code))

unfoldable pub written : ℕ → List Event → Output
written nodes es = listed (write_refusal nodes es longest) nodes es

-- By the line that is refused.
abbrev pub of_reading : ℕ → Reading → Output
of_reading zero r = written r.nodes r.steps
of_reading (suc k) r = refusing (line_refused r.code (suc k))

unfoldable pub output : List ℕ → Output
output text = cond (leb (length text) longest_text) (of_reading (read_text text).line (read_text text)) (refusing (line (bytes "refused long") []))
