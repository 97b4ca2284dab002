use mathlib.Core.Path.{ap, sym, ◌∙◌}
use Rattle.step_asks.specs.Groups.{desk_kind}
use Rattle.step_asks.specs.Kinds.{desk-yes, desk-no, desk-none}
use Rattle.step_asks.proofs.is_desk_kind.Goals as goal

pub returns-in-Join : goal.returns-in-Join
returns-in-Join c = desk-yes c.in-Ok.kind c.in-Join.is ∙ ap desk_kind (sym c.in-Ok.ensures)

pub returns-in_default : goal.returns-in_default
returns-in_default c =
    let d = c.in_default in desk-no c.in-Ok.kind d.not-Join d.not-Leave ∙ ap desk_kind (sym c.in-Ok.ensures)

pub returns-in-Err : goal.returns-in-Err
returns-in-Err c = desk-none c.args.kind c.in-Err.ensures.1
