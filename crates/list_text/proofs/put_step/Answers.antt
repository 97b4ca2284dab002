use native.Mathlib.Omega.{arith}
use Rattle.any_text.specs.Puts.{put_then}
use Rattle.list_text.specs.Shown.{kind_word}
use Rattle.list_text.specs.Showing.{rest-line}
use Rattle.list_text.proofs.put_step.Goals as goal

pub returns : goal.returns
returns c =
    let a = c.args in
    let p = c.put_kind-next.ensures in
    let q = c.put_line.ensures in
    let x = p.1 in
    let y = q.1 in
    (rw (rest-line (kind_word a.kind) a.node) at (put_then p.0 q.0), omega arith)
