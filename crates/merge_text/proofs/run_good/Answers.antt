use Prim.Native.Nat.{◌-◌, ◌≤◌}
use native.Mathlib.Omega.{arith}
use Rattle.run.specs.Ran.{no_writes}
use Rattle.run_difference.specs.Runs.{Written, written-run}
use Rattle.merge_text.proofs.run_good.Goals as goal
use Rattle.merge_text.proofs.run_good.Goals.{After-slice_known-2-1}

ended : (c : After-slice_known-2-1) → let run = c.run in let x = c.args in
    (no_writes ≤ run.result) × Written x.list.bytes.now x.list.trailer.records run.new.out (run.result - no_writes)
ended c =
    let run = c.run in
    let known = c.args.list.good in
    rw known.records (written-run c.args.list.bytes.now c.args.out.now run.new.out run.result known.none (omega arith) run.ensures.0 run.ensures.1)

pub overflow_sub-result : goal.overflow_sub-result
overflow_sub-result c = let done = (ended (goal.at.overflow_sub-result c).After-slice_known-2-1).0 in omega arith

pub returns : goal.returns
returns c = (ended (goal.at.returns c).After-slice_known-2-1).1
