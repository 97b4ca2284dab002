use Rattle.std.proofs.Common.{◌≡◌, true}
use Rattle.rules.specs.Range.{each}
use Rattle.step_range_queues.specs.Tests.{backup_place}
use Rattle.step_range_queues.proofs.masterships.backups_fit.Given as goal

abbrev pub invariant-loop-i : goal.invariant-loop-i
invariant-loop-i l = each l.i (backup_place l.count l.fn.m) ≡ true
