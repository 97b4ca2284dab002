use mathlib.Core.Path.{◌≡◌, ap₂, ◌∙◌}
use Prim.Native.Nat.{ℕ, ◌+◌, ◌-◌}
use native.Mathlib.Omega.{arith}
use lib.ListN.{take, drop}
use Rattle.std.proofs.Common.{ap, rules}
use Rattle.std.proofs.lemmas.Result.{err_from_is_err_and}
use Rattle.wire_frames.specs.Stream.{carried}
use Rattle.wire_frames.specs.Frames.{held_length, message_of, sized}
use Rattle.wire_frames.specs.Framing.{frame-none, frame-compressed, frame-short, frame-stands}
use Rattle.wire_frames.proofs.read_frame.Goals as goal

pub returns-then-is_empty : goal.returns-then-is_empty
returns-then-is_empty c = frame-none _ (search rules)

pub returns-then-bytes-ne0 : goal.returns-then-bytes-ne0
returns-then-bytes-ne0 c = frame-compressed _ c.if-bytes-ne0.true

pub returns-then-bytes-lt-HEAD : goal.returns-then-bytes-lt-HEAD
returns-then-bytes-lt-HEAD c = frame-short _ (omega arith) (omega arith)

pub returns-then-bytes-held : goal.returns-then-bytes-held
returns-then-bytes-held c = let said = c.held_length-held.ensures in frame-short _ (omega arith) (omega arith)

pub returns-in_err-carried : goal.returns-in_err-carried
returns-in_err-carried c =
    let held = c.held_length-held in
    let l = c.args.bytes.now in
    let said : held.result ≡ held_length l = held.ensures in
    let size : 5 + held.result - 5 ≡ held_length l = omega arith in
    let p = err_from_is_err_and c.from_residual.result c.from_residual.ensures.1 in
    rw (p.1, p.2) (ap (sized (5 + held.result)) c.in_err-carried.ensures ∙ ap₂ (λ (k n : ℕ). sized (5 + k) (message_of (carried (take n (drop 5 l))))) said size ∙ frame-stands l (omega arith) (omega arith))

pub returns : goal.returns
returns c =
    let held = c.held_length-held in
    let l = c.args.bytes.now in
    let said : held.result ≡ held_length l = held.ensures in
    let size : 5 + held.result - 5 ≡ held_length l = omega arith in
    ap (sized (5 + held.result)) c.in_ok-carried.ensures ∙ ap₂ (λ (k n : ℕ). sized (5 + k) (message_of (carried (take n (drop 5 l))))) said size ∙ frame-stands l (omega arith) (omega arith)
