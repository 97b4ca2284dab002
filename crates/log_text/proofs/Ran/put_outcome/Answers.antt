use Rattle.merge_text.specs.Says.{put_as}
use Rattle.any_text.specs.Line.{spaced, line}
use Rattle.std.proofs.Common.{arith}
use Rattle.log_records.specs.Rows.{rows_of}
use Rattle.log_text.specs.Showing.{outcome-up, outcome-down, outcome-open}
use Rattle.log_text.proofs.Ran.put_outcome.Goals as goal

pub returns-then-allowed : goal.returns-then-allowed
returns-then-allowed c = let m = c.args.self.now.merge in (put_as (outcome-up m.nodes m.bound (rows_of m.records.now) c.args.pair c.allowed.ensures c.if-allowed.true c.parting-parting.ensures) c.put_parting.ensures.0, c.put_parting.ensures.1)

pub returns-then-allowed-2 : goal.returns-then-allowed-2
returns-then-allowed-2 c = let m = c.args.self.now.merge in (put_as (outcome-down m.nodes m.bound (rows_of m.records.now) c.args.pair c.allowed.ensures c.if-allowed.false c.allowed-2.ensures c.if-allowed-2.true c.parting-parting-then-allowed-2.ensures) c.put_parting-then-allowed-2.ensures.0, c.put_parting-then-allowed-2.ensures.1)

pub returns : goal.returns
unfolding line spaced
returns c = let m = c.args.self.now.merge in (put_as (outcome-open m.nodes m.bound (rows_of m.records.now) c.args.pair c.allowed.ensures c.if-allowed.false c.allowed-2.ensures c.if-allowed-2.false) c.put_word.ensures, omega arith)
