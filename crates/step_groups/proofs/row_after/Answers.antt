use mathlib.Core.Path.{ap, ◌∙◌}
use mathlib.Core.Logic.{inl, inr}
use Rattle.step_asks.specs.Kinds.{last_row}
use Rattle.step_groups.specs.Turns.{quiet}
use Rattle.step_groups.proofs.row_after.Goals as goal

pub send_update-requires : goal.send_update-requires
send_update-requires c = let goes = c.requires.0 in (goes.asks.ordered-stream, goes.roomy (inl c.in-4.is))

pub flagged-requires : goal.flagged-requires
flagged-requires c = c.requires.0.waits c.in-5.is

pub send_write-requires : goal.send_write-requires
send_write-requires c = let goes = c.requires.0 in (goes.asks.ordered-stream, goes.roomy (inr c.in-6.is))

pub receive-requires : goal.receive-requires
receive-requires c = c.requires.0.asks.ordered-stream

pub written-requires : goal.written-requires
written-requires c = let m = c.in_default.in_default-own in c.requires.0.can_write (last_row _ c.requires.0.asks.kind c.requires.1 m.rest.0.0.0.0.1 m.rest.0.0.0.1 m.rest.0.0.1 m.rest.0.1 m.rest.1)

pub returns-in-4 : goal.returns-in-4
returns-in-4 c =
    rw c.in-4.is (c.quiet.ensures ∙ ap (quiet c.args.controller c.args.claims) c.send_update.ensures)

pub returns-in-5 : goal.returns-in-5
returns-in-5 c = rw c.in-5.is c.flagged.ensures

pub returns-in-6 : goal.returns-in-6
returns-in-6 c =
    rw c.in-6.is (c.quiet-in-6.ensures ∙ ap (quiet c.args.controller c.args.claims) c.send_write.ensures)

pub returns-in-7 : goal.returns-in-7
returns-in-7 c =
    rw c.in-7.is (c.quiet-in-7.ensures ∙ ap (quiet c.args.controller c.args.claims) c.receive.ensures)

pub returns-in-8 : goal.returns-in-8
returns-in-8 c =
    rw c.in-8.is (c.quiet-in-8.ensures ∙ ap (quiet c.args.controller c.args.claims) c.connect.ensures)

pub returns-in_default : goal.returns-in_default
returns-in_default c =
    let m = c.in_default.in_default-own in
    rw (last_row _ c.requires.0.asks.kind c.requires.1 m.rest.0.0.0.0.1 m.rest.0.0.0.1 m.rest.0.0.1 m.rest.0.1 m.rest.1) c.written.ensures
