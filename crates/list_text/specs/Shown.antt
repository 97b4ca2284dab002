-- What the program `read_list` prints for a list: its text, or why it is refused.
use Rattle.std.specs.Prelude.{List, [], ◌∷◌, ◌++◌, ℕ, zero, suc}
use Rattle.rules.specs.Step.{Event}
use Rattle.any_text.specs.Decimal.{decimal}
use Rattle.any_text.specs.Lines.{refused_line}
use Rattle.any_text.specs.Line.{line, lines}
use Rattle.any_text.specs.Printed.{Output, printing, refusing}
use Rattle.run_lists.specs.EventList.{first_record, record_count, node_count, refusal, record_at}
use Rattle.list_words.specs.Names.{bytes, name_of}

abbrev pub or_number : List ℕ → ℕ → List ℕ
or_number [] k = decimal k
or_number (b ∷ name) k = b ∷ name

-- The name of a kind, or its number where there is no such kind.
abbrev pub kind_word : ℕ → List ℕ
kind_word k = or_number (name_of k) k

abbrev pub step_line : Event → List ℕ
step_line e = line (kind_word e.kind) (e.node ∷ [])

abbrev pub step_line_at : List ℕ → ℕ → List ℕ
step_line_at list i = step_line (record_at list i)

abbrev pub notes_line : ℕ → List ℕ
notes_line zero = []
notes_line (suc n) = line (bytes "# note bytes left out:") (suc n ∷ [])

-- The node count, how many note bytes there are if there are any, and a line for each record.
unfoldable pub list_text : List ℕ → List ℕ
list_text list = line (bytes "nodes") (node_count list ∷ []) ++ notes_line (first_record list) ++ lines (step_line_at list) (record_count list)

abbrev pub shown_for : ℕ → List ℕ → Output
shown_for zero list = printing (list_text list)
shown_for (suc code) list = refusing (refused_line (suc code))

unfoldable pub shown : List ℕ → Output
shown list = shown_for (refusal list) list
