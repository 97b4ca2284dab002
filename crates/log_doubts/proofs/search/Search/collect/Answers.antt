use Rattle.std.specs.Prelude.{◌≡◌, ◌-◌, length}
use Rattle.std.proofs.Common.{arith}
use Rattle.log_records.specs.Rows.{rows_of}
use Rattle.log_doubts.specs.Doubts.{doubt_at}
use Rattle.log_doubts.specs.Search.{pairs-first, pairs-end}
use Rattle.log_doubts.specs.Found.{taking-more, taking-full, taking-ends, found-all, doubts-all}
use Rattle.log_doubts.proofs.search.Search.collect.Goals as goal

pub loop-x-preserved : goal.loop-x-preserved
loop-x-preserved c =
    let m = c.args.self.now.merge in
    taking-more c.loop-x.invariant _ (pairs-first (doubt_at m.nodes m.bound (rows_of m.records.now)) (length m.records.now) c.loop-x.x c.loop-x-test.true) c.collect_with-count.ensures

pub returns-then-count-eq-MOST_PAIRS : goal.returns-then-count-eq-MOST_PAIRS
returns-then-count-eq-MOST_PAIRS c =
    let m = c.args.self.now.merge in
    rw (← doubts-all m.nodes m.bound m.records.now) (found-all (taking-full c.loop-x.invariant (omega arith)))

pub returns : goal.returns
returns c =
    let m = c.args.self.now.merge in
    let none : length m.records.now - c.loop-x.x ≡ 0 = omega arith in
    rw (← doubts-all m.nodes m.bound m.records.now)
    (found-all (taking-ends c.loop-x.invariant (pairs-end (doubt_at m.nodes m.bound (rows_of m.records.now)) (length m.records.now) c.loop-x.x none)))
