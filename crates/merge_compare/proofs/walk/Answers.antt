use Rattle.std.proofs.Common.{◌≡◌, ap, ap₂, sym, subst, ◌∙◌, List, ℕ, ◌≤◌, get_or, true, false, arith}
use Rattle.std.proofs.lemmas.Bool.{not-true, not-false}
use Rattle.run_lists.specs.EventList.{record_at}
use Rattle.merge_verdict.specs.Verdict.{same_event}
use Rattle.merge_letters.specs.Letters.{letter_of}
use Rattle.any_search.specs.Holds.{Holds}
use Rattle.merge_compare.specs.Walk.{Walking, walk-starts, walk-missing, walk-blocked, walk-takes, walk-left, walk_same}
use Rattle.merge_compare.proofs.walk.Goals as goal
use Rattle.merge_compare.proofs.walk.Goals.{At-loop-j}

few : (c : At-loop-j) → c.args.first.trailer.nodes ≤ 8
few c = let t = c.args.first.good in let u = t.good.nodes.upper in omega arith

are : (c : At-loop-j) → let x = c.args in Holds (λ q. letter_of (record_at x.second.bytes.now q)) x.letters.now x.second.trailer.records
are c q h = c.requires.0.are q (let t = c.args.second.good.records in omega arith)

pub loop-j-init : goal.loop-j-init
loop-j-init c =
    let x = c.args in
    subst (λ (l : List ℕ). Walking x.first.trailer.nodes (record_at x.first.bytes.now) (record_at x.second.bytes.now) x.first.trailer.records x.second.trailer.records l 0) (sym c.requires.1) (walk-starts x.first.trailer.nodes (record_at x.first.bytes.now) (record_at x.second.bytes.now) x.first.trailer.records x.second.trailer.records)

pub returns-in_default : goal.returns-in_default
returns-in_default c =
    let x = c.args in
    let z = c.loop-j.invariant.placed.size in
    walk-missing x.first.trailer.nodes (record_at x.first.bytes.now) (record_at x.second.bytes.now) x.first.trailer.records x.second.trailer.records c.loop-j.invariant (few (goal.at.returns-in_default c).At-loop-j) c.requires.2 x.letters.now (are (goal.at.returns-in_default c).At-loop-j) c.loop-j-test.true
    (c.letter-letter.ensures ∙ ap letter_of c.record-event.ensures) c.in_default.ensures (omega arith)

pub returns-then-ne : goal.returns-then-ne
returns-then-ne c =
    let x = c.args in
    let l = c.loop-j in
    let other : same_event (record_at x.first.bytes.now l.j) (record_at x.second.bytes.now (get_or l.places c.in-Some.at 0)) ≡ false = ap₂ same_event (sym c.record-event.ensures) (sym c.record-met.ensures) ∙ not-true _ (sym c.ne.ensures ∙ c.if-ne.true) in
    let h = c.in-Some.ensures.0 in
    let z = c.loop-j.invariant.placed.size in
    c.hindrance.ensures
    ∙ walk-blocked x.first.trailer.nodes (record_at x.first.bytes.now) (record_at x.second.bytes.now) x.first.trailer.records x.second.trailer.records l.invariant (few (goal.at.returns-then-ne c).At-loop-j) c.requires.2 x.letters.now (are (goal.at.returns-then-ne c).At-loop-j) c.loop-j-test.true
    (c.letter-letter.ensures ∙ ap letter_of c.record-event.ensures) c.in-Some.ensures.1 (omega arith) other

pub loop-j-preserved : goal.loop-j-preserved
loop-j-preserved c =
    let x = c.args in
    let l = c.loop-j in
    let same : same_event (record_at x.first.bytes.now l.j) (record_at x.second.bytes.now (get_or l.places c.in-Some.at 0)) ≡ true = ap₂ same_event (sym c.record-event.ensures) (sym c.record-met.ensures) ∙ not-false _ (sym c.ne.ensures ∙ c.if-ne.false) in
    let h = c.in-Some.ensures.0 in
    let z = c.loop-j.invariant.placed.size in
    walk-takes x.first.trailer.nodes (record_at x.first.bytes.now) (record_at x.second.bytes.now) x.first.trailer.records x.second.trailer.records l.invariant (few (goal.at.loop-j-preserved c).At-loop-j) c.requires.2 x.letters.now (are (goal.at.loop-j-preserved c).At-loop-j) c.loop-j-test.true
    (c.letter-letter.ensures ∙ ap letter_of c.record-event.ensures) c.in-Some.ensures.1 (omega arith) c.take.ensures same

pub returns-then-first-second : goal.returns-then-first-second
returns-then-first-second c =
    let x = c.args in
    let all : c.loop-j.j ≡ x.first.trailer.records = omega arith in
    rw all at (walk-left x.first.trailer.nodes (record_at x.first.bytes.now) (record_at x.second.bytes.now) x.first.trailer.records x.second.trailer.records c.loop-j.invariant (omega arith) (omega arith))

pub returns : goal.returns
returns c =
    let x = c.args in
    walk_same x.first.trailer.nodes (record_at x.first.bytes.now) (record_at x.second.bytes.now) x.first.trailer.records x.second.trailer.records c.loop-j.invariant (omega arith) (omega arith)
