use Rattle.std.specs.Prelude.{length}
use Rattle.std.proofs.Common.{sym, ◌∙◌, arith}
use Rattle.log_records.specs.Rows.{rows_of}
use Rattle.log_doubts.specs.Doubts.{doubt_at}
use Rattle.log_doubts.specs.Index.{too-late}
use Rattle.log_doubts.specs.Search.{doubt-in-rows, pair-here, pair-none, pairs-over}
use Rattle.log_doubts.specs.Found.{taking-full, taking-ends, taking-one, taking-on}
use Rattle.log_doubts.proofs.search.Search.collect_with.Goals.{then-in_doubt+else-count-eq-MOST_PAIRS, else-in_doubt}
use Rattle.log_doubts.proofs.search.Search.collect_with.Goals as goal

pub returns-then-not-may_precede : goal.returns-then-not-may_precede
returns-then-not-may_precede c =
    let s = c.args.self.now in
    let m = s.merge in
    taking-ends c.loop-y.invariant.0 (pairs-over (doubt_at m.nodes m.bound (rows_of m.records.now)) (length m.records.now) c.args.x (λ j low high.
    sym (doubt-in-rows m.nodes m.bound m.records.now c.args.x j) ∙ too-late s.index m.bound c.args.x c.loop-y.y (sym c.may_precede.ensures ∙ c.if-not-may_precede.true) j low high))

pub returns-then-count-eq-MOST_PAIRS : goal.returns-then-count-eq-MOST_PAIRS
returns-then-count-eq-MOST_PAIRS c =
    let m = c.args.self.now.merge in
    let same = sym (doubt-in-rows m.nodes m.bound m.records.now c.args.x c.loop-y.y) ∙ sym c.in_doubt.ensures in
    taking-full (taking-one c.loop-y.invariant.0 (pair-here (doubt_at m.nodes m.bound (rows_of m.records.now)) (length m.records.now) c.args.x c.loop-y-test.true (same ∙ c.if-in_doubt.true)) c.loop-y.invariant.1) (omega arith)

pub loop-y-preserved : goal.loop-y-preserved
loop-y-preserved c =
    let m = c.args.self.now.merge in
    let test = doubt_at m.nodes m.bound (rows_of m.records.now) in
    let n = length m.records.now in
    let same = sym (doubt-in-rows m.nodes m.bound m.records.now c.args.x c.loop-y.y) ∙ sym c.in_doubt.ensures in
    elim c.if-in_doubt.branch [
      | then-in_doubt+else-count-eq-MOST_PAIRS w ↦ (rw (w.found-is, w.count-is) (taking-one c.loop-y.invariant.0 (pair-here test n c.args.x c.loop-y-test.true (same ∙ w.if-in_doubt.true)) c.loop-y.invariant.1), let b = c.loop-y.invariant.1 in omega arith)
      | else-in_doubt w ↦ (rw (w.found-is, w.count-is) (taking-on c.loop-y.invariant.0 (pair-none test n c.args.x c.loop-y-test.true (same ∙ w.if-in_doubt.false))), let b = c.loop-y.invariant.1 in omega arith)
    ]
