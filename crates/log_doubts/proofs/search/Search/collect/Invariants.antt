use Rattle.std.proofs.Common.{length, ◌-◌}
use Rattle.any_search.specs.Places.{from}
use Rattle.log_records.specs.Rows.{rows_of}
use Rattle.log_doubts.specs.Doubts.{doubt_at, pairs}
use Rattle.log_doubts.specs.Found.{Taking}
use Rattle.log_doubts.proofs.search.Search.collect.Given as goal

abbrev pub invariant-loop-x : goal.invariant-loop-x
invariant-loop-x l =
    let m = l.self.merge in
    let test = doubt_at m.nodes m.bound (rows_of m.records.now) in
    let n = length m.records.now in
    Taking (pairs test n (from 0 n)) (pairs test n (from l.x (n - l.x))) l.initial.found l.found 0 l.count
