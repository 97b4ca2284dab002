use Rattle.std.proofs.Common.{◌≡◌, true}
use Rattle.rules.specs.Range.{each}
use Rattle.step_state.specs.Order.{past_controller}
use Rattle.step_range_queues.specs.Tests.{place}
use Rattle.step_range.specs.Tests.{controller_test, blank_controller_test}
use Rattle.step_range.proofs.controllers.controllers_fit.Given as goal

abbrev pub invariant-loop-i : goal.invariant-loop-i
invariant-loop-i l = each l.i (place (controller_test l.count) blank_controller_test past_controller l.fn.core.controllers l.count) ≡ true
