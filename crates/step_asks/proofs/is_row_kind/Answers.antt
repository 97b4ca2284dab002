use mathlib.Core.Path.{ap, sym, ◌∙◌}
use Rattle.step_asks.specs.Groups.{row_kind}
use Rattle.step_asks.specs.Kinds.{row-yes, row-no, row-none}
use Rattle.step_asks.proofs.is_row_kind.Goals as goal

pub returns-in-Learn : goal.returns-in-Learn
returns-in-Learn c = row-yes c.in-Ok.kind c.in-Learn.is ∙ ap row_kind (sym c.in-Ok.ensures)

pub returns-in_default : goal.returns-in_default
returns-in_default c =
    let d = c.in_default in row-no c.in-Ok.kind d.not-Learn d.not-SendUpdate d.not-ReceiveUpdate d.not-SendWrite d.not-ReceiveWrite d.not-Connect d.not-HandleWrite ∙ ap row_kind (sym c.in-Ok.ensures)

pub returns-in-Err : goal.returns-in-Err
returns-in-Err c = row-none c.args.kind c.in-Err.ensures.1
