use mathlib.Core.Path.{ap, ◌∙◌}
use borrow.Author.Tests.{eq-eqb, ne_eqb}
use Rattle.rules.specs.Limits.{most_nodes}
use Rattle.rules.specs.Rules.{close_rule}
use Rattle.any_list.specs.Arrays.{column, table}
use Rattle.step_state.specs.Hold.{open_at}
use Rattle.step_state.specs.declared.Board.{Board}
use Rattle.step_streams.specs.Does.{news_of, tell_row}
use Rattle.step_switch.proofs.Closing.{at-claims, closed-quiet, closed-told, close-roomy}
use Rattle.step_switch.proofs.close.Goals as goal

pub cleared_at-left-requires : goal.cleared_at-left-requires
cleared_at-left-requires c = at-claims c.requires.at

pub returns-then-claims-node : goal.returns-then-claims-node
unfolding close_rule
returns-then-claims-node c =
    let count = c.args.count in
    let left = c.cleared_at-left in
    ap {B = Board} (λ r. record { streams = r; claims = left.result.claims }) c.tell_all.ensures
    ∙ ap {B = Board} (λ (x : Board). record { streams = table most_nodes (tell_row (column open_at count x.streams) (news_of x.claims.elected) x.streams); claims = x.claims }) left.ensures
    ∙ closed-told c.requires.at (eq-eqb _ _ c.if-claims-node.true) (close-roomy c.requires.at c.requires.goes)

pub returns-else-claims-node : goal.returns-else-claims-node
unfolding close_rule
returns-else-claims-node c = c.cleared_at-left.ensures ∙ closed-quiet c.requires.at (ne_eqb _ _ c.if-claims-node.false)
