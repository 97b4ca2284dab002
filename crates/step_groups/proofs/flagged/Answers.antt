use mathlib.Core.Path.{ap, ◌∙◌}
use Rattle.step_groups.specs.Turns.{quiet}
use Rattle.step_groups.proofs.flagged.Goals as goal

pub returns : goal.returns
returns c =
    let made = c.quiet.ensures ∙ ap (quiet c.args.controller c.args.claims) c.receive.ensures in
    λ i. record { stream = (made i).stream; says = c.confirmed.ensures i; claims = (made i).claims; accepted = (made i).accepted }
