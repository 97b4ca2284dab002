use Rattle.std.proofs.Common.{ℕ, Bool, refl, sym, arith}
use Rattle.rules.specs.Range.{each}
use Rattle.step_state.specs.Order.{past_controller}
use Rattle.step_range_queues.specs.Tests.{place}
use Rattle.step_range_queues.specs.Each.{from-result, each_more, each-not, each_all}
use Rattle.step_range.specs.Tests.{controller_test, blank_controller_test, controllers_test}
use Rattle.step_range.proofs.controllers.controllers_fit.Goals as goal
use Rattle.step_range.proofs.controllers.controllers_fit.Goals.{Start}

abbrev row-fits : Start → ℕ → Bool
row-fits c = place (controller_test c.args.count) blank_controller_test past_controller c.args.core.controllers c.args.count

pub loop-i-init : goal.loop-i-init
unfolding each
loop-i-init c = refl

pub loop-i-preserved : goal.loop-i-preserved
loop-i-preserved c =
    let fits = row-fits (goal.at.loop-i-preserved c).Start in
    each_more fits c.loop-i.i c.loop-i.invariant (from-result {given = fits c.loop-i.i} c.controller_fits.ensures c.if-not-controller_fits.false)

pub returns-then-not-controller_fits : goal.returns-then-not-controller_fits
unfolding controllers_test
returns-then-not-controller_fits c =
    let fits = row-fits (goal.at.returns-then-not-controller_fits c).Start in
    sym (each-not fits 8 c.loop-i.i (omega arith) (from-result {given = fits c.loop-i.i} c.controller_fits.ensures c.if-not-controller_fits.true))

pub returns : goal.returns
unfolding controllers_test
returns c = each_all (row-fits (goal.at.returns c).Start) 8 c.loop-i.i (omega arith) c.loop-i.invariant
