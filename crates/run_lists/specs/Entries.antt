-- An entry of a history, read from the bytes that a run writes.
use Rattle.std.specs.Prelude.{List, ℕ, ◌+◌, ◌*◌}
use Rattle.rules.specs.State.{Write}
use Rattle.run_lists.specs.EventList.{byte_at}

-- The write that the four bytes of entry i say: node, 0, and the term with the least byte first.
abbrev pub entry_at : List ℕ → ℕ → Write
entry_at part i = record { node = byte_at part (4 * i); term = byte_at part (4 * i + 2) + 256 * byte_at part (4 * i + 3) }

-- Where there is no entry.
abbrev pub no_write : Write
no_write = record { node = 0; term = 0 }
