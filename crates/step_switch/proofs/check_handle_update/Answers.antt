use mathlib.Core.Path.{sym, ◌∙◌}
use mathlib.Core.Bool.{true, false}
use Rattle.step_switch.proofs.Updating.{update-at, update-answer, no-update}
use Rattle.step_switch.proofs.check_handle_update.Goals as goal

pub returns-in_default : goal.returns-in_default
returns-in_default c =
    sym (no-update c.requires c.args.running (λ e. c.in_default.not-Update (c.waits.ensures ∙ e)))

pub update_fits-requires : goal.update_fits-requires
update_fits-requires c = update-at c.requires c.args.running (sym c.waits.ensures ∙ c.in-Update.is)

pub returns-then-not-update_fits : goal.returns-then-not-update_fits
returns-then-not-update_fits c =
    sym (update-answer c.requires c.args.running false (sym c.waits.ensures ∙ c.in-Update.is) (sym c.update_fits.ensures ∙ c.if-not-update_fits.true))

pub returns : goal.returns
returns c =
    sym (update-answer c.requires c.args.running true (sym c.waits.ensures ∙ c.in-Update.is) (sym c.update_fits.ensures ∙ c.if-not-update_fits.false))
