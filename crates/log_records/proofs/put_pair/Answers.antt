use Rattle.std.proofs.Common.{arith}
use Rattle.log_read.specs.Log.{row_of}
use Rattle.log_records.specs.Times.{pair-doubt, pair-against}
use Rattle.log_records.proofs.put_pair.Goals as goal

pub returns-then-may_precede : goal.returns-then-may_precede
returns-then-may_precede c =
    let e = pair-doubt c.args.bound (row_of c.args.first.now) (row_of c.args.second.now) c.may_precede.ensures c.if-may_precede.true in
    (rw (← e) c.put_line.ensures.0, let z = c.put_line.ensures.1 in omega arith)

pub returns : goal.returns
returns c =
    let e = pair-against c.args.bound (row_of c.args.first.now) (row_of c.args.second.now) c.may_precede.ensures c.if-may_precede.false in
    (rw (← e) c.put_line-2.ensures.0, let z = c.put_line-2.ensures.1 in omega arith)
