use Rattle.std.proofs.Common.{rules, tests, eqb, Err, ◌+◌, sym, ap, ◌∙◌, length-append, le-ltb}
use Rattle.std.proofs.lemmas.Bool.{lt-leb}
use Rattle.std.proofs.lemmas.Iterator.Splits.{YieldsList-from_slice_split}
use Rattle.std.proofs.lemmas.Iterator.Consumers.{YieldsList-from_enumerate, YieldsList-at, YieldsList-turn, YieldsList-end}
use Rattle.log_read.specs.Reads.{turn, turns-end, going-starts, going-blank, going-head, going-record, refused_at, ReadAll, stops-two, stops-nodes, stops-four, stops-record, stops-other, first-fails, second-fails, going-ends, going-empty}
use Rattle.log_read.proofs.read_log.Goals.{in_default-via-in-Two+then-is_none+then-nodes-ge1+else-nodes-le-MOST_NODES, in_default-via-in-Two+then-is_none+else-nodes-ge1, in_default-via-in-Two+else-is_none, in_default-via-in-Four+then-is_some+then-count-lt-MOST_RECORDS+then-kind-le255+else-node-le255, in_default-via-in-Four+then-is_some+then-count-lt-MOST_RECORDS+else-kind-le255, in_default-via-in-Four+then-is_some+else-count-lt-MOST_RECORDS, in_default-via-in-Four+else-is_some, in_default-via-in_default}
use Rattle.log_read.proofs.read_log.Goals as goal

pub loop-i-init : goal.loop-i-init
loop-i-init c = going-starts _ _

pub loop-i-preserved-in-Blank-1 : goal.loop-i-preserved-in-Blank-1
loop-i-preserved-in-Blank-1 c =
    let t = turn c.args.text.now (YieldsList-turn
    (YieldsList-from_enumerate (YieldsList-at (cc) (YieldsList-from_slice_split {s = c.split.result} _ (λ b. eqb b 10) c.args.text.now c.split.ensures.rest c.split.ensures.done c.split.ensures.closure (λ x b q k. search (rules, tests)))) (cc))
    c.loop-i.yielded c.loop-i.i-iterator c.loop-i.yielded_by c.next.result c.next.new.self (c.in-Some.i, c.in-Some.line) c.in-Some.is c.next.ensures.steps) in
    going-blank c.loop-i.invariant t (simp length-append) (sym c.line_of.ensures ∙ c.in-Blank.is)

pub loop-i-preserved-then-nodes-le-MOST_NODES : goal.loop-i-preserved-then-nodes-le-MOST_NODES
loop-i-preserved-then-nodes-le-MOST_NODES c =
    let t = turn c.args.text.now (YieldsList-turn
    (YieldsList-from_enumerate (YieldsList-at (cc) (YieldsList-from_slice_split {s = c.split.result} _ (λ b. eqb b 10) c.args.text.now c.split.ensures.rest c.split.ensures.done c.split.ensures.closure (λ x b q k. search (rules, tests)))) (cc))
    c.loop-i.yielded c.loop-i.i-iterator c.loop-i.yielded_by c.next.result c.next.new.self (c.in-Some.i, c.in-Some.line) c.in-Some.is c.next.ensures.steps) in
    going-head c.loop-i.invariant t (simp length-append) (sym c.line_of.ensures ∙ c.in-Two.is) c.if-is_none.ensures c.if-nodes-ge1.true c.if-nodes-le-MOST_NODES.true

pub loop-i-preserved : goal.loop-i-preserved
loop-i-preserved c =
    let t = turn c.args.text.now (YieldsList-turn
    (YieldsList-from_enumerate (YieldsList-at (cc) (YieldsList-from_slice_split {s = c.split.result} _ (λ b. eqb b 10) c.args.text.now c.split.ensures.rest c.split.ensures.done c.split.ensures.closure (λ x b q k. search (rules, tests)))) (cc))
    c.loop-i.yielded c.loop-i.i-iterator c.loop-i.yielded_by c.next.result c.next.new.self (c.in-Some.i, c.in-Some.line) c.in-Some.is c.next.ensures.steps) in
    going-record c.loop-i.invariant t (simp length-append) (sym c.line_of.ensures ∙ c.in-Four.is) (sym c.if-is_some.ensures) c.if-count-lt-MOST_RECORDS.true c.if-kind-le255.true c.if-node-le255.true

pub returns-in_default : goal.returns-in_default
returns-in_default c =
    let t = turn c.args.text.now (YieldsList-turn
    (YieldsList-from_enumerate (YieldsList-at (cc) (YieldsList-from_slice_split {s = c.split.result} _ (λ b. eqb b 10) c.args.text.now c.split.ensures.rest c.split.ensures.done c.split.ensures.closure (λ x b q k. search (rules, tests)))) (cc))
    c.loop-i.yielded c.loop-i.i-iterator c.loop-i.yielded_by c.next.result c.next.new.self (c.in-Some.i, c.in-Some.line) c.in-Some.is c.next.ensures.steps) in
    let r : ReadAll c.args.text.now c.args.records.now c.loop-i.records (Err (refused_at (c.in-Some.i + 1) c.loop-i.head c.loop-i.count)) = elim c.in_default.branch [
      | in_default-via-in-Two+then-is_none+then-nodes-ge1+else-nodes-le-MOST_NODES w ↦ stops-nodes c.loop-i.invariant t (sym c.line_of.ensures ∙ w.in-Two.is) (second-fails _ _ (lt-leb _ _ w.if-nodes-le-MOST_NODES.false))
      | in_default-via-in-Two+then-is_none+else-nodes-ge1 w ↦ stops-nodes c.loop-i.invariant t (sym c.line_of.ensures ∙ w.in-Two.is) (first-fails _ _ (lt-leb _ _ w.if-nodes-ge1.false))
      | in_default-via-in-Two+else-is_none w ↦ stops-two c.loop-i.invariant t (sym c.line_of.ensures ∙ w.in-Two.is) w.if-is_none.ensures
      | in_default-via-in-Four+then-is_some+then-count-lt-MOST_RECORDS+then-kind-le255+else-node-le255 w ↦ stops-record c.loop-i.invariant t (sym c.line_of.ensures ∙ w.in-Four.is) (second-fails _ _ (lt-leb _ _ w.if-node-le255.false))
      | in_default-via-in-Four+then-is_some+then-count-lt-MOST_RECORDS+else-kind-le255 w ↦ stops-record c.loop-i.invariant t (sym c.line_of.ensures ∙ w.in-Four.is) (first-fails _ _ (second-fails _ _ (lt-leb _ _ w.if-kind-le255.false)))
      | in_default-via-in-Four+then-is_some+else-count-lt-MOST_RECORDS w ↦ stops-record c.loop-i.invariant t (sym c.line_of.ensures ∙ w.in-Four.is) (first-fails _ _ (first-fails _ _ (le-ltb _ _ w.if-count-lt-MOST_RECORDS.false)))
      | in_default-via-in-Four+else-is_some w ↦ stops-four c.loop-i.invariant t (sym c.line_of.ensures ∙ w.in-Four.is) (sym w.if-is_some.ensures)
      | in_default-via-in_default w ↦ stops-other c.loop-i.invariant t (sym c.line_of.ensures ∙ w.in_default.is)
    ] in
    record { log = ap Err c.refused_at.ensures ∙ r.log; records = r.records }

pub returns-in-Some-head : goal.returns-in-Some-head
returns-in-Some-head c =
    let over = turns-end c.args.text.now (YieldsList-end
    (YieldsList-from_enumerate (YieldsList-at (cc) (YieldsList-from_slice_split {s = c.split.result} _ (λ b. eqb b 10) c.args.text.now c.split.ensures.rest c.split.ensures.done c.split.ensures.closure (λ x b q k. search (rules, tests)))) (cc))
    c.loop-i.yielded c.loop-i.i-iterator c.loop-i.yielded_by c.next.result c.next.new.self c.in-None.is c.next.ensures.steps).1 in
    let r = going-ends c.loop-i.invariant (c.in-Some-head.is) over in record { log = r.log; records = r.records }

pub returns-in-None-head : goal.returns-in-None-head
returns-in-None-head c =
    let over = turns-end c.args.text.now (YieldsList-end
    (YieldsList-from_enumerate (YieldsList-at (cc) (YieldsList-from_slice_split {s = c.split.result} _ (λ b. eqb b 10) c.args.text.now c.split.ensures.rest c.split.ensures.done c.split.ensures.closure (λ x b q k. search (rules, tests)))) (cc))
    c.loop-i.yielded c.loop-i.i-iterator c.loop-i.yielded_by c.next.result c.next.new.self c.in-None.is c.next.ensures.steps).1 in
    let r = going-empty c.loop-i.invariant c.in-None-head.is over in record { log = ap Err c.refused_at-in-None-head.ensures ∙ r.log; records = r.records }
