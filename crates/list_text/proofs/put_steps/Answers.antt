use Rattle.std.proofs.Common.{◌≡◌, ap, arith}
use Rattle.any_text.specs.Puts.{put-length}
use Rattle.any_text.specs.Lined.{lined-none, lined-more}
use Rattle.list_text.specs.Shown.{step_line}
use Rattle.list_text.proofs.put_steps.Goals as goal

pub loop-i-init : goal.loop-i-init
loop-i-init c = lined-none _ _ _ _

pub put_step-next-requires : goal.put_step-next-requires
put_step-next-requires c = let g = c.loop-i.invariant in let s = g.short in let n = put-length g.put in omega arith

pub loop-i-preserved : goal.loop-i-preserved
loop-i-preserved c =
    let p = c.put_step-next.ensures in
    let z = p.0.place in
    let e = p.1 in
    lined-more c.loop-i.invariant (omega arith) (ap step_line c.record-event.ensures) p.0

pub returns : goal.returns
returns c =
    let all : c.loop-i.i ≡ c.args.list.trailer.records = omega arith in
    rw all at c.loop-i.invariant
