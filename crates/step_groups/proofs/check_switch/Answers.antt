use mathlib.Core.Path.{◌∙◌}
use mathlib.Core.Logic.{inl, inr}
use Rattle.step_asks.specs.Kinds.{last-board}
use Rattle.step_groups.specs.Answers.{close-answer, shutdown-answer, startup-answer}
use Rattle.step_groups.proofs.check_switch.Goals as goal

pub check_close-requires : goal.check_close-requires
check_close-requires c = c.requires.0.within c.requires.1 (inl c.in-9.is)

pub check_handle_update-requires : goal.check_handle_update-requires
check_handle_update-requires c = c.requires.0.within c.requires.1 (inr c.in-10.is)

pub returns-in-9 : goal.returns-in-9
returns-in-9 c =
    rw c.in-9.is (c.check_close.ensures ∙ close-answer c.args.ask.count c.args.ask.running c.args.streams.now c.args.claims.now c.args.ask.node)

pub returns-in-10 : goal.returns-in-10
returns-in-10 c = rw c.in-10.is (c.check_handle_update.ensures)

pub returns-in-12 : goal.returns-in-12
returns-in-12 c =
    rw c.in-12.is (c.check_allowed.ensures ∙ shutdown-answer c.args.ask.count c.args.ask.running c.args.streams.now c.args.claims.now)

pub returns-in_default : goal.returns-in_default
returns-in_default c =
    let m = c.in_default.in_default-own in
    rw (last-board _ (c.requires.0.kind c.requires.1) m.rest.0.0.1 m.rest.0.1 m.rest.1)
    (c.check_allowed-in_default.ensures ∙ startup-answer c.args.ask.count c.args.ask.running c.args.streams.now c.args.claims.now)
