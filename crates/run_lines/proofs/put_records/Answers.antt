use Rattle.std.proofs.Common.{◌≡◌, ◌+◌, get_or, ap, arith}
use Rattle.rules.specs.Step.{Event}
use Rattle.any_text.specs.Lines.{record_line}
use Rattle.any_text.specs.Widths.{record-line-width}
use Rattle.any_text.specs.Spacing.{record-row}
use Rattle.any_text.specs.Lined.{lined-none, lined-more, lined-room}
use Rattle.std.proofs.Common.{get_or, ◌+◌}
use Rattle.run_lines.proofs.put_records.Goals as goal

pub loop-i-init : goal.loop-i-init
loop-i-init c = lined-none _ _ _ _

pub put_row-at-requires : goal.put_row-at-requires
put_row-at-requires c =
    let event = c.record-event.result in
    let answer = get_or c.args.answers.now c.loop-i.i 0 in
    let short = record-line-width (c.loop-i.i + 1) event.kind event.node answer (omega arith) (omega arith) (omega arith) (omega (arith, c.type_inv.answers c.loop-i.i)) in
    rw (← record-row (c.loop-i.i + 1) event.kind event.node answer) (lined-room c.loop-i.invariant short c.args.list.trailer.records (omega arith) (omega arith))

pub loop-i-preserved : goal.loop-i-preserved
loop-i-preserved c =
    let event = c.record-event.result in
    let answer = get_or c.args.answers.now c.loop-i.i 0 in
    let short = record-line-width (c.loop-i.i + 1) event.kind event.node answer (omega arith) (omega arith) (omega arith) (omega (arith, c.type_inv.answers c.loop-i.i)) in
    let same = ap (λ (e : Event). record_line (c.loop-i.i + 1) e.kind e.node answer) c.record-event.ensures in
    lined-more c.loop-i.invariant short same (rw (← record-row (c.loop-i.i + 1) event.kind event.node answer) at c.put_row-at.ensures)

pub returns : goal.returns
returns c =
    let all : c.loop-i.i ≡ c.args.list.trailer.records = omega arith in
    rw all at c.loop-i.invariant
