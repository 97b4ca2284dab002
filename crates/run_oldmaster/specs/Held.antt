-- Why an old master can't get in, of the histories that users hold: the bytes that a run writes, and the lines that the program prints. `Read` proves
-- it. Assumes nothing.
use Rattle.std.specs.Prelude.{◌≡◌, List, ℕ, ◌-◌, drop}
use Rattle.rules.specs.State.{Write}
use Rattle.any_list.specs.Arrays.{table}
use Rattle.run_lists.specs.EventList.{node_count, record_count, records, refusal}
use Rattle.run.specs.Ran.{no_writes, Ran, ran}
use Rattle.run_lists.specs.Entries.{entry_at}
use Rattle.run_lines.specs.RunText.{run_text}
use Rattle.run_text.specs.Transcript.{transcript}
use Rattle.rules_oldmaster.specs.KeptOut.{KeptOut}

-- ---- bytes

-- How many writes the number returned says: none for a refusal.
abbrev pub writes_returned : Ran → ℕ
writes_returned r = r.returned - no_writes

-- The bytes behind the answers.
abbrev pub history_part : List ℕ → Ran → List ℕ
history_part list r = drop (record_count list) r.out

-- The writes that a run of the list has left in the buffer.
abbrev pub writes_held : List ℕ → Ran → List Write
writes_held list r = table (writes_returned r) (entry_at (history_part list r))

-- Of any list of bytes and any buffer.
abbrev pub BytesKeptOut : Type 0
BytesKeptOut = (list out : List ℕ) → KeptOut (node_count list) (records list) (writes_held list (ran list out))

-- ---- text

-- Of any list of bytes that is not refused, and any writes that the text printed for it shows.
abbrev pub PrintedKeptOut : Type 0
PrintedKeptOut = (list answers : List ℕ) (writes : List Write) → refusal list ≡ 0 → transcript list ≡ run_text list answers writes → KeptOut (node_count list) (records list) writes
