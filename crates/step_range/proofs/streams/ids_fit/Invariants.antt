use Rattle.std.proofs.Common.{◌≡◌, true}
use Rattle.rules.specs.Range.{each}
use Rattle.step_range.specs.Tests.{id_place}
use Rattle.step_range.proofs.streams.ids_fit.Given as goal

abbrev pub invariant-loop-i : goal.invariant-loop-i
invariant-loop-i l = each l.i (id_place l.count l.fn.claims) ≡ true
