use Rattle.std.proofs.Common.{ap, arith}
use Rattle.any_text.specs.Puts.{put_then}
use Rattle.merge_text.specs.Report.{verdict_line}
use Rattle.merge_text.specs.Says.{put_as}
use Rattle.merge_text.proofs.put_comparison.Goals as goal

pub returns : goal.returns
returns c =
    let verdict = c.put_verdict-next.ensures in
    let runs = c.put_runs.ensures in
    let last = runs.1 in
    let next = verdict.1 in
    (put_then (put_as (ap verdict_line c.compare_lists.ensures) verdict.0) runs.0, omega arith)
