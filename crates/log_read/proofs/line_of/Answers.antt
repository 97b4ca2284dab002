use Rattle.std.specs.Prelude.{not, eqb, length}
use Rattle.std.proofs.Common.{rules, tests, ◌∙◌, arith, length-append}
use Rattle.std.proofs.lemmas.Iterator.Splits.{YieldsList-from_slice_split}
use Rattle.std.proofs.lemmas.Iterator.Consumers.{YieldsList-from_filter, YieldsList-at, YieldsList-turn, YieldsList-end}
use Rattle.any_words.specs.Text.{is_blank}
use Rattle.log_read.specs.Scan.{scan-starts, scan-bad, scan-full, scan-more, scan-ends}
use Rattle.log_read.proofs.line_of.Goals as goal

pub loop-word-init : goal.loop-word-init
loop-word-init c = scan-starts _ _ (search rules)

pub returns-in_default : goal.returns-in_default
returns-in_default c =
    let t = YieldsList-turn
    (YieldsList-from_filter _ (λ w. not (eqb (length w) 0)) (YieldsList-at (cc) (YieldsList-from_slice_split {s = c.split.result} _ is_blank c.args.line.now c.split.ensures.rest c.split.ensures.done c.split.ensures.closure (λ x b q k. search (rules, tests)))) (cc) (λ x b q k. search (rules, tests)))
    c.loop-word.yielded c.loop-word.word-iterator c.loop-word.yielded_by c.next.result c.next.new.self c.in-Some.word c.in-Some.is c.next.ensures.steps in
    scan-bad c.loop-word.invariant t c.read_number.ensures (search rules)

pub returns-then-n-ge4 : goal.returns-then-n-ge4
returns-then-n-ge4 c =
    let t = YieldsList-turn
    (YieldsList-from_filter _ (λ w. not (eqb (length w) 0)) (YieldsList-at (cc) (YieldsList-from_slice_split {s = c.split.result} _ is_blank c.args.line.now c.split.ensures.rest c.split.ensures.done c.split.ensures.closure (λ x b q k. search (rules, tests)))) (cc) (λ x b q k. search (rules, tests)))
    c.loop-word.yielded c.loop-word.word-iterator c.loop-word.yielded_by c.next.result c.next.new.self c.in-Some.word c.in-Some.is c.next.ensures.steps in
    scan-full c.loop-word.invariant t c.read_number.ensures c.in-Some-read_number.is c.if-n-ge4.true

pub loop-word-preserved : goal.loop-word-preserved
loop-word-preserved c =
    let t = YieldsList-turn
    (YieldsList-from_filter _ (λ w. not (eqb (length w) 0)) (YieldsList-at (cc) (YieldsList-from_slice_split {s = c.split.result} _ is_blank c.args.line.now c.split.ensures.rest c.split.ensures.done c.split.ensures.closure (λ x b q k. search (rules, tests)))) (cc) (λ x b q k. search (rules, tests)))
    c.loop-word.yielded c.loop-word.word-iterator c.loop-word.yielded_by c.next.result c.next.new.self c.in-Some.word c.in-Some.is c.next.ensures.steps in
    scan-more c.loop-word.invariant t c.read_number.ensures c.in-Some-read_number.is (omega arith) (simp length-append)

pub returns : goal.returns
returns c =
    let over = YieldsList-end
    (YieldsList-from_filter _ (λ w. not (eqb (length w) 0)) (YieldsList-at (cc) (YieldsList-from_slice_split {s = c.split.result} _ is_blank c.args.line.now c.split.ensures.rest c.split.ensures.done c.split.ensures.closure (λ x b q k. search (rules, tests)))) (cc) (λ x b q k. search (rules, tests)))
    c.loop-word.yielded c.loop-word.word-iterator c.loop-word.yielded_by c.next.result c.next.new.self c.in-None.is c.next.ensures.steps in
    c.line_with.ensures ∙ scan-ends c.loop-word.invariant (let z = over.1 in omega arith)
