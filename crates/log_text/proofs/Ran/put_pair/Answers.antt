use Rattle.std.proofs.Common.{arith}
use Rattle.any_text.specs.Puts.{put_then}
use Rattle.merge_text.specs.Says.{put_as}
use Rattle.log_records.specs.Rows.{rows_of}
use Rattle.log_text.specs.Answer.{outcome}
use Rattle.log_text.specs.Showing.{pair-line}
use Rattle.log_text.proofs.Ran.put_pair.Goals as goal

pub returns : goal.returns
returns c =
    let m = c.args.self.now.merge in (
      put_then {b = outcome m.nodes m.bound (rows_of m.records.now) c.args.pair} (put_as (pair-line m.bound m.records.now c.args.pair) c.put_pair-next.ensures.0) c.put_outcome.ensures.0,
      let z = c.put_pair-next.ensures.1 in let w = c.put_outcome.ensures.1 in omega arith,
    )
