use mathlib.Core.Path.{ap, ◌∙◌}
use Prim.Native.Nat.{ℕ, ◌+◌}
use native.Mathlib.Omega.{arith}
use borrow.Author.Rules.{rules}
use Rattle.any_text.specs.Puts.{put_then, room-then}
use Rattle.wire_bytes.specs.Reporting.{field-bytes-length}
use Rattle.wire_frames_bytes.specs.Replies.{reply-length, reply-put, size-inside, tells-refusal, tells-short, tells-frame}
use Rattle.wire_frames_bytes.proofs.frame_into.Goals as goal

pub overflow_add-next : goal.overflow_add-next
overflow_add-next c =
    let inside = size-inside c.args.capture.now c.args.at c.args.out.now _ c.in-Ok.ensures in
    search rules

pub put_fields-behind-requires : goal.put_fields-behind-requires
put_fields-behind-requires c = let n = field-bytes-length c.fields.result in record { enough = omega arith }

pub put_little-requires : goal.put_little-requires
put_little-requires c =
    let n = reply-length c.args.at c.in-Ok.field-0 in
    room-then (rw c.fields.ensures at c.put_fields-behind.ensures) (record { enough = omega arith })

pub returns-in-Err : goal.returns-in-Err
returns-in-Err c = let all = tells-refusal c.args.capture.now c.args.at c.args.out.now _ c.in-Err.ensures in (c.number.ensures ∙ all.0, all.1)

pub returns-in-Ok : goal.returns-in-Ok
returns-in-Ok c = tells-short c.args.capture.now c.args.at c.args.out.now _ c.in-Ok.ensures c.if-out-lt-TOLD_BYTES.true

pub returns-in-Ok-2 : goal.returns-in-Ok-2
returns-in-Ok-2 c =
    let a = c.args in
    let room = c.if-out-lt-TOLD_BYTES.false in
    let all = tells-frame a.capture.now a.at a.out.now _ c.in-Ok.ensures room in
    let put = put_then (rw c.fields.ensures at c.put_fields-behind.ensures) c.put_little.ensures in
    (ap (λ (k : ℕ). 256 + k) c.kind.ensures ∙ all.0, reply-put a.at c.in-Ok.field-0 a.out.now _ _ room put ∙ all.1)
