-- The number of each refusal, and of an answer: 0 where it is done.
use Rattle.std.specs.Prelude.{ℕ, Result, Ok, Err}
use Rattle.rules.specs.Codes.{step_done, out_of_range, unknown_kind, wrong_node, not_allowed, term_limit, history_full, queue_full, bad_length, bad_mark, bad_node_count, bad_extent, out_too_short}
use Rattle.step_parts.specs.declared.Refusal.{Refusal}
use Rattle.step_parts.specs.declared.Refusal.TheVariants as R

abbrev pub refusal_code : Refusal → ℕ
refusal_code R.OutOfRange = out_of_range
refusal_code R.UnknownKind = unknown_kind
refusal_code R.WrongNode = wrong_node
refusal_code R.NotAllowed = not_allowed
refusal_code R.TermLimit = term_limit
refusal_code R.HistoryFull = history_full
refusal_code R.QueueFull = queue_full
refusal_code R.BadLength = bad_length
refusal_code R.BadMark = bad_mark
refusal_code R.BadNodeCount = bad_node_count
refusal_code R.BadExtent = bad_extent
refusal_code R.OutTooShort = out_too_short

abbrev pub code_of : {A : Type 0} → Result A Refusal → ℕ
code_of (Ok a) = step_done
code_of (Err r) = refusal_code r
