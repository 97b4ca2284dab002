use native.Mathlib.Omega.{arith}
use Rattle.any_text.specs.Puts.{put-length, put_then}
use Rattle.wire_text.specs.Widths.{field-lines-width}
use Rattle.wire_frames_text.proofs.put_arbitration.Goals as goal

pub put_fields-requires : goal.put_fields-requires
put_fields-requires c =
    let wide = field-lines-width c.args.fields (omega arith) (omega arith) (omega arith) (omega arith) in
    let put = c.put_word-next.ensures in
    let same = put-length put in
    let at = put.place in
    record { enough = omega arith }

pub returns : goal.returns
returns c =
    let wide = field-lines-width c.args.fields (omega arith) (omega arith) (omega arith) (omega arith) in
    let word = c.put_word-next.ensures in
    let fields = c.put_fields.ensures in
    let at = word.place in
    let end = fields.place in
    (put_then word fields, omega arith)
