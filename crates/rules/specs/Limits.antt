-- The limits. Each number stands here and nowhere else in the specification.
use Rattle.std.specs.Prelude.{ℕ}

abbrev pub most_nodes : ℕ
most_nodes = 8

-- The most backups that a mastership has: every node but its master.
abbrev pub most_backups : ℕ
most_backups = 7

abbrev pub top_term : ℕ
top_term = 10000

abbrev pub top_id : ℕ
top_id = 10008

-- The most that a queue holds, an event queue too.
abbrev pub queue_length : ℕ
queue_length = 8

-- The most accepted writes that the history holds.
abbrev pub history_length : ℕ
history_length = 1024
