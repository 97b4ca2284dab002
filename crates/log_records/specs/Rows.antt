-- The records of a log, as the code has them.
use Rattle.std.specs.Prelude.{List, map, ℕ, get_or}
use Rattle.rules.specs.Step.{Event}
use Rattle.merge_verdict.specs.Clocks.{Logged}
use Rattle.log_read.specs.declared.Record.{Record}
use Rattle.log_read.specs.Log.{Row, record_of, row_of}

-- Where there is no record.
abbrev pub no_row : Row
no_row = record { line = 0; logged = record { log = 0; time = 0; event = record { kind = 0; node = 0 } } }

abbrev pub row_at : List Record → ℕ → Row
row_at l i = row_of (get_or l i (record_of no_row))

-- All of them.
abbrev pub rows_of : List Record → List Row
rows_of l = map row_of l

-- The steps of the records.
abbrev pub steps_of : List Row → List Event
steps_of rows = map (λ r. r.logged.event) rows

-- The records without their lines: a merge of the logs that they are from.
abbrev pub merged : List Row → List Logged
merged rows = map (λ r. r.logged) rows
