use native.Mathlib.Omega.{arith}
use Rattle.any_text.specs.Puts.{put-length}
use Rattle.list_text.specs.Showing.{whole-text}
use Rattle.list_text.proofs.put_text.Goals as goal

pub returns : goal.returns
returns c =
    let few = c.args.list.good in
    let g = few.good in
    let p = c.put_line-at.ensures in
    let q = c.put_notes-next.ensures in
    let r = c.put_steps.ensures in
    let k = put-length p.0 in
    let l = put-length q.0 in
    let m = put-length r.put in
    let x = p.1 in
    let y = q.1 in
    let z = r.short in
    let n = few.records in
    (whole-text few p.0 q.0 r.put, omega arith)
