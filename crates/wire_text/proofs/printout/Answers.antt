use native.Mathlib.Omega.{arith}
use Rattle.any_text.specs.Puts.{put-length}
use Rattle.any_text.specs.Widths.{refused-line-width}
use Rattle.wire_text.specs.Widths.{field-lines-width, too_long, prints-fields, prints-refusal}
use Rattle.wire_text.proofs.printout.Goals as goal

pub put_refused_line-requires : goal.put_refused_line-requires
put_refused_line-requires c =
    let line = refused-line-width 8 (omega arith) in
    let buf = c.put_refused_line-arg-1.given.0.1 in
    record { enough = omega arith }

pub returns-then-message-gt-LONGEST : goal.returns-then-message-gt-LONGEST
returns-then-message-gt-LONGEST c =
    let line = refused-line-width 8 (omega arith) in
    let same = put-length c.put_refused_line.ensures in
    let buf = c.put_refused_line-arg-1.given.0.1 in
    (rw (too_long c.args.message.now c.if-message-gt-LONGEST.true) c.put_refused_line.ensures, omega arith)

pub put_fields-requires : goal.put_fields-requires
put_fields-requires c =
    let line = field-lines-width c.in-Ok.read (omega arith) (omega arith) (omega arith) (omega arith) in
    let buf = c.put_fields-arg-1.given.0.1 in
    record { enough = omega arith }

pub put_refused_line-requires-in-Err : goal.put_refused_line-requires-in-Err
put_refused_line-requires-in-Err c =
    let line = refused-line-width c.number.result (omega arith) in
    let buf = c.put_refused_line-arg-in-Err-1.given.0.1 in
    record { enough = omega arith }

pub returns-in-Ok : goal.returns-in-Ok
returns-in-Ok c =
    let line = field-lines-width c.in-Ok.read (omega arith) (omega arith) (omega arith) (omega arith) in
    let same = put-length c.put_fields.ensures in
    let buf = c.put_fields-arg-1.given.0.1 in
    (rw (prints-fields c.args.message.now c.if-message-gt-LONGEST.false _ c.in-Ok.ensures) c.put_fields.ensures, omega arith)

pub returns-in-Err : goal.returns-in-Err
returns-in-Err c =
    let line = refused-line-width c.number.result (omega arith) in
    let same = put-length c.put_refused_line-in-Err.ensures in
    let buf = c.put_refused_line-arg-in-Err-1.given.0.1 in
    (rw (prints-refusal c.args.message.now c.if-message-gt-LONGEST.false _ c.in-Err.ensures, ← c.number.ensures) c.put_refused_line-in-Err.ensures, omega arith)
