use mathlib.Core.Path.{sym, ◌∙◌}
use Rattle.step_switch_row.proofs.Writing.{write-at, write-runs, no-write}
use Rattle.step_switch_row.proofs.check_handle_write.Goals as goal

pub check_write-requires : goal.check_write-requires
check_write-requires c = write-at c.requires c.args.claims.now c.args.running (sym c.waits.ensures ∙ c.in-Write.is)

pub returns-in-Write : goal.returns-in-Write
returns-in-Write c =
    c.check_write.ensures ∙ write-runs c.requires c.args.claims.now c.args.running c.args.writes (sym c.waits.ensures ∙ c.in-Write.is)

pub returns-in_default : goal.returns-in_default
returns-in_default c =
    sym (no-write c.requires c.args.claims.now c.args.running c.args.writes (λ e. c.in_default.not-Write (c.waits.ensures ∙ e)))
