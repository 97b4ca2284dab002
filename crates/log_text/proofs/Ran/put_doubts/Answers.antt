use Rattle.std.specs.Prelude.{◌<◌, length, take}
use Rattle.std.proofs.Common.{refl, sym, arith}
use Rattle.any_text.specs.Line.{spaced, line}
use Rattle.any_text.specs.Puts.{put-length}
use Rattle.log_records.specs.Rows.{rows_of}
use Rattle.log_doubts.specs.Doubts.{doubts}
use Rattle.log_doubts.specs.Found.{most_pairs}
use Rattle.log_doubts.specs.Inside.{doubts-inside}
use Rattle.log_text.specs.Showing.{showing-starts, showing-ends, showing-full, showing-more}
use Rattle.log_text.proofs.Ran.put_doubts.Goals as goal

pub loop-i-init : goal.loop-i-init
loop-i-init c = showing-starts _

pub put_word-requires : goal.put_word-requires
put_word-requires c = record { enough = let s = c.loop-i.invariant.short in let f = c.loop-i.invariant.few in let z = put-length c.loop-i.invariant.put in let r = c.requires.0 in omega arith }

pub returns-then-i-eq-MOST_SHOWN : goal.returns-then-i-eq-MOST_SHOWN
unfolding line spaced
returns-then-i-eq-MOST_SHOWN c = (
  showing-full c.loop-i.invariant c.loop-i-test.true c.if-i-eq-MOST_SHOWN.true c.put_word.ensures,
  let s = c.loop-i.invariant.short in let f = c.loop-i.invariant.few in let z = c.put_word.ensures.place in omega arith,
)

pub put_pair-at-requires : goal.put_pair-at-requires
put_pair-at-requires c =
    let m = c.args.self.now.merge in
    let s = c.loop-i.invariant.short in
    let f = c.loop-i.invariant.few in
    let d = c.if-i-eq-MOST_SHOWN.false in
    let z = put-length c.loop-i.invariant.put in
    let r = c.requires.0 in
    let h : c.loop-i.i < length (take most_pairs (doubts m.nodes m.bound (rows_of m.records.now))) = rw c.requires.1 at c.loop-i-test.true in
    let p = rw (sym c.requires.1) at (doubts-inside m.nodes m.bound m.records.now c.loop-i.i h) in
    (p.0, p.1, omega arith)

pub loop-i-preserved : goal.loop-i-preserved
loop-i-preserved c =
    showing-more c.loop-i.invariant c.loop-i-test.true (let f = c.loop-i.invariant.few in let d = c.if-i-eq-MOST_SHOWN.false in omega arith) refl c.put_pair-at.ensures.0 c.put_pair-at.ensures.1

pub returns : goal.returns
returns c = (showing-ends c.loop-i.invariant c.loop-i-test.false, let s = c.loop-i.invariant.short in let f = c.loop-i.invariant.few in omega arith)
