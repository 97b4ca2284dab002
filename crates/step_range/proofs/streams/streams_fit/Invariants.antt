use Rattle.std.proofs.Common.{◌≡◌, true}
use Rattle.rules.specs.Range.{each}
use Rattle.step_range.specs.Tests.{stream_place}
use Rattle.step_range.proofs.streams.streams_fit.Given as goal

abbrev pub invariant-loop-i : goal.invariant-loop-i
invariant-loop-i l = each l.i (stream_place l.count l.running l.fn.core.streams l.fn.core.claims) ≡ true
