use mathlib.Core.Path.{ap}
use Rattle.step_groups.specs.Turns.{handled_row}
use Rattle.step_groups.proofs.written.Goals as goal

pub returns : goal.returns
returns c =
    ap (handled_row c.args.controller c.args.claims) c.handle_write-handled.ensures
