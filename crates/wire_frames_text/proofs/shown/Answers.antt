use native.Mathlib.Omega.{arith}
use Rattle.any_text.specs.Puts.{put-length, put_then}
use Rattle.any_text.specs.Digits.{width}
use Rattle.wire_frames_text.specs.Showing.{shows-carried, shows-refusal}
use Rattle.wire_frames_text.proofs.shown.Goals as goal

pub put_wide-next-requires : goal.put_wide-next-requires
put_wide-next-requires c =
    let wide = width c.args.number 19 (omega arith) in
    let buf = c.put_wide-arg-1.given.0.1 in
    record { enough = omega arith }

pub put_carried-requires : goal.put_carried-requires
put_carried-requires c =
    let wide = width c.args.number 19 (omega arith) in
    let put = c.put_wide-next.ensures in
    let at = put.place in
    let buf = c.put_carried-arg-1.given.0.1 in
    omega arith

pub returns-in-Ok : goal.returns-in-Ok
returns-in-Ok c =
    let a = c.args in
    let wide = width a.number 19 (omega arith) in
    let number = c.put_wide-next.ensures in
    let put = c.put_carried.ensures in
    let at = number.place in
    let same = put-length put.0 in
    let buf = c.put_carried-arg-1.given.0.1 in
    let end = put.1 in
    (rw (c.in-Ok.is, shows-carried a.number a.offset c.in-Ok.frame) (put_then number put.0), omega arith)

pub returns-in-Err : goal.returns-in-Err
returns-in-Err c =
    let a = c.args in
    let put = c.put_line.ensures in
    let same = put-length put.0 in
    let buf = c.put_line-arg-1.given.0.1 in
    let end = put.1 in
    (rw (c.in-Err.is, shows-refusal a.number a.offset c.in-Err.refusal, ← c.number.ensures) put.0, omega arith)
