use Rattle.std.proofs.Common.{ℕ, Bool, refl, sym, arith}
use Rattle.rules.specs.Range.{each}
use Rattle.step_range_queues.specs.Each.{from-result, each_more, each-not, each_all}
use Rattle.step_range.specs.Tests.{stream_place, streams_test}
use Rattle.step_range.proofs.streams.streams_fit.Goals as goal
use Rattle.step_range.proofs.streams.streams_fit.Goals.{Start}

abbrev row-fits : Start → ℕ → Bool
row-fits c = stream_place c.args.count c.args.running c.args.core.streams c.args.core.claims

pub loop-i-init : goal.loop-i-init
unfolding each
loop-i-init c = refl

pub loop-i-preserved : goal.loop-i-preserved
loop-i-preserved c =
    let fits = row-fits (goal.at.loop-i-preserved c).Start in
    each_more fits c.loop-i.i c.loop-i.invariant (from-result {given = fits c.loop-i.i} c.stream_fits.ensures c.if-not-stream_fits.false)

pub returns-then-not-stream_fits : goal.returns-then-not-stream_fits
unfolding streams_test
returns-then-not-stream_fits c =
    let fits = row-fits (goal.at.returns-then-not-stream_fits c).Start in
    sym (each-not fits 8 c.loop-i.i (omega arith) (from-result {given = fits c.loop-i.i} c.stream_fits.ensures c.if-not-stream_fits.true))

pub returns : goal.returns
unfolding streams_test
returns c = each_all (row-fits (goal.at.returns c).Start) 8 c.loop-i.i (omega arith) c.loop-i.invariant
