-- What the code's structs and enums say of a list.
use Rattle.std.specs.Prelude.{ℕ, cond, eqb}
use Rattle.rules.specs.Codes.{out_of_range, unknown_kind, wrong_node, not_allowed, term_limit, history_full, queue_full, bad_length, bad_mark, bad_node_count, bad_extent}
use Rattle.rules.specs.Step.{Event}
use Rattle.step_parts.specs.declared.Refusal.{Refusal}
use Rattle.step_parts.specs.declared.Refusal.TheVariants as R
use Rattle.run_lists.specs.declared.Record.{Record}

abbrev pub event_of : Record → Event
event_of r = record { kind = r.kind; node = r.node }

-- The refusal that has the code.
abbrev pub refusal_of : ℕ → Refusal
refusal_of n =
    cond (eqb n out_of_range) R.OutOfRange
    (cond (eqb n unknown_kind) R.UnknownKind
    (cond (eqb n wrong_node) R.WrongNode
    (cond (eqb n not_allowed) R.NotAllowed
    (cond (eqb n term_limit) R.TermLimit
    (cond (eqb n history_full) R.HistoryFull
    (cond (eqb n queue_full) R.QueueFull
    (cond (eqb n bad_length) R.BadLength
    (cond (eqb n bad_mark) R.BadMark
    (cond (eqb n bad_node_count) R.BadNodeCount
    (cond (eqb n bad_extent) R.BadExtent R.OutTooShort))))))))))
