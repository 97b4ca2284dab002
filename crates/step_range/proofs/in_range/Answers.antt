use Rattle.std.proofs.Common.{◌≡◌, ◌∙◌, arith}
use Rattle.std.proofs.lemmas.Bool.Decides.{nat_tests}
use Rattle.rules.specs.Limits.{most_nodes}
use Rattle.rules_laws.specs.Tests.{is-yes, is_within}
use Rattle.step_state.specs.Tidy.{state_fits}
use Rattle.step_bridge.proofs.Sizes.{sized}
use Rattle.step_range_queues.specs.Each.{from-result}
use Rattle.step_range.specs.Tests.{state_test}
use Rattle.step_range.specs.Agree.{state-agree}
use Rattle.step_range.proofs.in_range.Goals as goal
use Rattle.step_range.proofs.in_range.Goals.{Start}

same : (c : Start) → state_test c.args.s ≡ state_fits c.args.s
same c = state-agree c.args.s (sized c.args.s _ c.well_formed.0)

pub core_fits-requires : goal.core_fits-requires
core_fits-requires c = ((is_within 1 most_nodes _).to ((is-yes _).from (from-result c.is_node.ensures c.if-is_node.true))).upper

pub returns-then-core_fits : goal.returns-then-core_fits
unfolding state_test
returns-then-core_fits c =
    let e : c.history_fits.result ≡ state_test c.args.s = grind (arith, nat_tests) in
    e ∙ same (goal.at.returns-then-core_fits c).Start

pub returns-else-core_fits : goal.returns-else-core_fits
unfolding state_test
returns-else-core_fits c =
    let e : c.if-is_node.value ≡ state_test c.args.s = grind (arith, nat_tests) in
    e ∙ same (goal.at.returns-else-core_fits c).Start
