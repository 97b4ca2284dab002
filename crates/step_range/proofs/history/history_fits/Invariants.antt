use Rattle.std.proofs.Common.{◌≡◌, ◌+◌, true}
use Rattle.rules.specs.Range.{each}
use Rattle.step_state.specs.Hold.{no_write}
use Rattle.step_state.specs.Tidy.{blank_write}
use Rattle.step_range_queues.specs.Tests.{place}
use Rattle.step_range.specs.Tests.{write_test}
use Rattle.step_range.proofs.history.history_fits.Given as goal

abbrev pub invariant-loop-e : goal.invariant-loop-e
invariant-loop-e l = each l.e-index (place (write_test l.count) blank_write no_write l.fn.h.items l.fn.h.len) ≡ true

abbrev pub invariant-loop-e-2 : goal.invariant-loop-e-2
invariant-loop-e-2 l = each (l.fn.h.len + l.e-index) (place (write_test l.fn.count) blank_write no_write l.fn.h.items l.fn.h.len) ≡ true
