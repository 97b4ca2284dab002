-- The same text, read from the buffer that a run has filled.
use Rattle.std.specs.Prelude.{List, ◌++◌, ℕ, drop}
use Rattle.run_lists.specs.EventList.{record_count}
use Rattle.any_text.specs.Lines.{writes_line}
use Rattle.run_lists.specs.Entries.{entry_at}
use Rattle.any_text.specs.Line.{lines}
use Rattle.run_lines.specs.RunText.{record_line_at, line_of}

abbrev pub entry_line_at : List ℕ → ℕ → List ℕ
entry_line_at part i = line_of (entry_at part i)

unfoldable pub bytes_text : List ℕ → List ℕ → ℕ → List ℕ
bytes_text list out writes =
    lines (record_line_at list out) (record_count list) ++ writes_line writes ++ lines (entry_line_at (drop (record_count list) out)) writes

-- 32,762 lines of 18 bytes, one of 12 and 1,024 of 10 are 599,968 bytes.
abbrev pub longest_text : ℕ
longest_text = 600000
