use Rattle.std.proofs.Common.{length, ◌+◌, ◌<◌}
use Rattle.log_records.specs.Rows.{rows_of}
use Rattle.log_doubts.specs.Doubts.{doubt_at}
use Rattle.log_doubts.specs.Search.{pairs_at}
use Rattle.log_doubts.specs.Found.{Taking}
use Rattle.log_doubts.proofs.search.Search.collect_with.Given as goal

abbrev pub invariant-loop-y : goal.invariant-loop-y
invariant-loop-y l =
    let m = l.self.merge in
    let test = doubt_at m.nodes m.bound (rows_of m.records.now) in
    let n = length m.records.now in
    (Taking (pairs_at test n l.x (l.x + 1)) (pairs_at test n l.x l.y) l.initial.found l.found l.found_before l.count) × (l.count < 17)
