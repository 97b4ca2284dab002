use Rattle.std.proofs.Common.{refl, arith}
use Rattle.rules.specs.Range.{each}
use Rattle.any_list.specs.Tests.{tests}
use Rattle.step_range_queues.specs.Tests.{backup_place, backups_test}
use Rattle.step_range_queues.specs.Each.{from-result, each_more, places-all, places-not}
use Rattle.step_range_queues.proofs.masterships.backups_fit.Goals as goal

pub returns-then-m-gt-MOST_BACKUPS : goal.returns-then-m-gt-MOST_BACKUPS
unfolding backups_test
returns-then-m-gt-MOST_BACKUPS c = search tests

pub loop-i-init : goal.loop-i-init
unfolding each
loop-i-init c = refl

pub loop-i-preserved : goal.loop-i-preserved
loop-i-preserved c =
    each_more (backup_place c.args.count c.args.m) c.loop-i.i c.loop-i.invariant (from-result c.backup_fits.ensures c.if-not-backup_fits.false)

pub returns-then-not-backup_fits : goal.returns-then-not-backup_fits
unfolding backups_test
returns-then-not-backup_fits c =
    let a = c.args in
    places-not (backup_place a.count a.m) 7 a.m.len c.if-m-gt-MOST_BACKUPS.false c.loop-i.i (omega arith) (from-result c.backup_fits.ensures c.if-not-backup_fits.true)

pub returns : goal.returns
unfolding backups_test
returns c =
    let a = c.args in
    places-all (backup_place a.count a.m) 7 a.m.len c.if-m-gt-MOST_BACKUPS.false c.loop-i.i (omega arith) c.loop-i.invariant
