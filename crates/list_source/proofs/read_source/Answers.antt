use Rattle.std.proofs.Common.{rules, tests, eqb, ◌≤◌, arith, length, length-append}
use Rattle.std.proofs.lemmas.Iterator.Splits.{YieldsList-from_slice_split}
use Rattle.std.proofs.lemmas.Iterator.Consumers.{YieldsList-from_enumerate, YieldsList-at, YieldsList-turn, YieldsList-end}
use Rattle.any_words.specs.Text.{lines}
use Rattle.any_text.specs.Puts.{put-length}
use Rattle.list_source.specs.Reads.{Turn, turn, turns-end, going-starts, line-room, going-stops, going_more, going-empty, going-ends}
use Rattle.list_source.proofs.read_source.Goals.{In-Some, In-None}
use Rattle.list_source.proofs.read_source.Goals as goal

at_line : (c : In-Some) → Turn c.args.text.now (length c.loop-i.yielded) c.in-Some.i c.in-Some.line.now
at_line c = turn c.args.text.now (YieldsList-turn
    (YieldsList-from_enumerate (YieldsList-at (cc) (YieldsList-from_slice_split {s = c.split.result} _ (λ b. eqb b 10) c.args.text.now c.split.ensures.rest c.split.ensures.done c.split.ensures.closure (λ x b q k. search (rules, tests)))) (cc))
    c.loop-i.yielded c.loop-i.i-iterator c.loop-i.yielded_by c.next.result c.next.new.self (c.in-Some.i, c.in-Some.line) c.in-Some.is c.next.ensures.steps)

over : (c : In-None) → length (lines c.args.text.now) ≤ length c.loop-i.yielded
over c = turns-end c.args.text.now (YieldsList-end
    (YieldsList-from_enumerate (YieldsList-at (cc) (YieldsList-from_slice_split {s = c.split.result} _ (λ b. eqb b 10) c.args.text.now c.split.ensures.rest c.split.ensures.done c.split.ensures.closure (λ x b q k. search (rules, tests)))) (cc))
    c.loop-i.yielded c.loop-i.i-iterator c.loop-i.yielded_by c.next.result c.next.new.self c.in-None.is c.next.ensures.steps).1

pub loop-i-init : goal.loop-i-init
loop-i-init c = going-starts _ _

pub take_line-requires : goal.take_line-requires
take_line-requires c = line-room c.loop-i.invariant (at_line (goal.at.take_line-requires c).In-Some) c.requires

pub returns-in-Err : goal.returns-in-Err
returns-in-Err c = going-stops c.loop-i.invariant (at_line (goal.at.returns-in-Err c).In-Some) c.line_of.ensures c.in-Err.ensures c.requires

pub loop-i-preserved : goal.loop-i-preserved
loop-i-preserved c = simp length-append (going_more c.loop-i.invariant (at_line (goal.at.loop-i-preserved c).In-Some) c.line_of.ensures c.in-Ok.ensures)

pub returns-then-taken-eq0 : goal.returns-then-taken-eq0
returns-then-taken-eq0 c =
    let z = put-length c.loop-i.invariant.put in
    let r = c.loop-i.invariant.room in
    going-empty c.loop-i.invariant (over (goal.at.returns-then-taken-eq0 c).In-None) c.if-taken-eq0.true (omega arith)

pub returns : goal.returns
returns c =
    let z = put-length c.loop-i.invariant.put in
    let r = c.loop-i.invariant.room in
    going-ends c.loop-i.invariant (over (goal.at.returns c).In-None) (omega arith) (omega arith)
