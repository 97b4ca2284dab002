use Rattle.std.proofs.Common.{arith, ◌+◌}
use denote.Enum.Declared.{tag_of}
use Rattle.step_parts.specs.contracts.Refusal.{the_type}
use Rattle.any_text.specs.Digits.{width}
use Rattle.any_text.specs.Puts.{put-length, put_then}
use Rattle.step_parts.specs.Answers.{refusal_code}
use Rattle.step_parts.specs.Refusals.{cast-code, code-some, code-byte}
use Rattle.list_source.specs.Printing.{said-code}
use Rattle.list_source.proofs.put_refusal.Goals as goal

pub returns-in-Unread : goal.returns-in-Unread
returns-in-Unread c = rw c.in-Unread.is (c.put_line.ensures.0, let p = put-length c.put_line.ensures.0 in let e = c.put_line.ensures.1 in omega arith)

pub put_wide-next-requires : goal.put_wide-next-requires
put_wide-next-requires c =
    let r = c.in-Coded.refusal in
    record { enough = let p = c.put_word-at.ensures in let n = put-length p in let z = p.place in let k = cast-code r in let b = code-byte r in let w = width (tag_of the_type r + 1) 2 (omega arith) in omega arith }

pub put_line-requires-in-Coded : goal.put_line-requires-in-Coded
put_line-requires-in-Coded c =
    let r = c.in-Coded.refusal in
    let p = c.put_word-at.ensures in
    let n = put-length p in
    let z = p.place in
    let q = c.put_wide-next.ensures in
    let m = put-length q in
    let y = q.place in
    let k = cast-code r in
    let b = code-byte r in
    let w = width (tag_of the_type r + 1) 2 (omega arith) in
    omega arith

pub returns-in-Coded : goal.returns-in-Coded
returns-in-Coded c =
    let s = c.in-Coded.refusal in
    let p = c.put_word-at.ensures in
    let q = c.put_wide-next.ensures in
    let r = c.put_line-in-Coded.ensures in
    let k = cast-code s in
    let b = code-byte s in
    let all = rw (k, said-code (refusal_code s) c.args.refused.line (code-some s)) at (put_then p (put_then q r.0)) in
    let l = put-length p in
    let m = put-length q in
    let n = put-length r.0 in
    let w = width (tag_of the_type s + 1) 2 (omega arith) in
    let y = p.place in
    let z = q.place in
    let e = r.1 in
    rw c.in-Coded.is (all, omega arith)
