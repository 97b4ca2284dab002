-- What is printed of a run: a line for each record, the number of writes, and a line for each of them.
use Rattle.std.specs.Prelude.{List, ◌++◌, ℕ, ◌+◌, length, get_or}
use Rattle.rules.specs.State.{Write}
use Rattle.run_lists.specs.EventList.{record_count, record_at}
use Rattle.run_lists.specs.Entries.{no_write}
use Rattle.any_text.specs.Line.{lines}
use Rattle.any_text.specs.Lines.{record_line, writes_line, write_line}

-- The line of the record that i others stand before.
abbrev pub record_line_at : List ℕ → List ℕ → ℕ → List ℕ
record_line_at list answers i = record_line (i + 1) (record_at list i).kind (record_at list i).node (get_or answers i 0)

abbrev pub line_of : Write → List ℕ
line_of w = write_line w.node w.term

abbrev pub write_line_at : List Write → ℕ → List ℕ
write_line_at writes i = line_of (get_or writes i no_write)

-- A line for each record, the number of writes, and a line for each of them.
unfoldable pub run_text : List ℕ → List ℕ → List Write → List ℕ
run_text list answers writes =
    lines (record_line_at list answers) (record_count list) ++ writes_line (length writes) ++ lines (write_line_at writes) (length writes)
