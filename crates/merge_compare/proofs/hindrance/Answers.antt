use Rattle.std.proofs.Common.{◌≤◌, length, get_or, arith}
use Rattle.run_lists.specs.EventList.{record_at}
use Rattle.merge_compare.specs.Obstacles.{no_second, no-first, crossed}
use Rattle.merge_compare.proofs.hindrance.Goals as goal
use Rattle.merge_compare.proofs.hindrance.Goals.{Start}

row : (c : Start) → c.args.a ≤ length c.args.places.now
row c = let z = c.requires.0.size in omega arith

pub returns-in_default : goal.returns-in_default
returns-in_default c =
    let x = c.args in
    let one = x.first.trailer in
    no_second one.nodes (record_at x.first.bytes.now) (record_at x.second.bytes.now) one.records x.places.now x.a (get_or x.places.now x.b 0) (omega arith) (row (goal.at.returns-in_default c).Start) c.record.ensures c.in_default.ensures (omega arith)

pub returns-in_default-find_record : goal.returns-in_default-find_record
returns-in_default-find_record c =
    let x = c.args in
    let one = x.first.trailer in
    no-first one.nodes (record_at x.first.bytes.now) (record_at x.second.bytes.now) one.records x.places.now x.a (get_or x.places.now x.b 0) (omega arith) (row (goal.at.returns-in_default-find_record c).Start) c.record.ensures c.in-Some.ensures.1 c.in-Some.ensures.0 c.record-2.ensures c.in_default-find_record.ensures (omega arith)

pub returns : goal.returns
returns c =
    let x = c.args in
    let one = x.first.trailer in
    crossed one.nodes (record_at x.first.bytes.now) (record_at x.second.bytes.now) one.records x.places.now x.a (get_or x.places.now x.b 0) (omega arith) (row (goal.at.returns c).Start) c.record.ensures c.in-Some.ensures.1 c.in-Some.ensures.0 c.record-2.ensures c.in-Some-find_record.ensures.1 c.in-Some-find_record.ensures.0
