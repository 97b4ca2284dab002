-- The answer codes. Where several would fit, the lowest number is given: see `decide` and `step`.
use Rattle.std.specs.Prelude.{ℕ}

abbrev pub step_done : ℕ
step_done = 0

abbrev pub out_of_range : ℕ
out_of_range = 1

abbrev pub unknown_kind : ℕ
unknown_kind = 2

abbrev pub wrong_node : ℕ
wrong_node = 3

abbrev pub not_allowed : ℕ
not_allowed = 4

abbrev pub term_limit : ℕ
term_limit = 5

abbrev pub history_full : ℕ
history_full = 6

abbrev pub queue_full : ℕ
queue_full = 7

-- ---- of an event list: it is refused whole

abbrev pub bad_length : ℕ
bad_length = 8

abbrev pub bad_mark : ℕ
bad_mark = 9

-- Also where a fresh state is asked for.
abbrev pub bad_node_count : ℕ
bad_node_count = 10

abbrev pub bad_extent : ℕ
bad_extent = 11

abbrev pub out_too_short : ℕ
out_too_short = 12
