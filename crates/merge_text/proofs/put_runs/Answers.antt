use Prim.Native.Nat.{◌-◌}
use native.Mathlib.Omega.{arith}
use lib.ListN.{length, drop, length-drop}
use lib.Seq.{take_all}
use Rattle.any_text.specs.Puts.{put-length}
use Rattle.merge_text.specs.Runs.{put_both}
use Rattle.merge_text.proofs.put_runs.Goals as goal

pub put_parting-requires : goal.put_parting-requires
put_parting-requires c =
    let line = c.put_line-next.ensures in
    let same = put-length line.0 in
    let start = c.requires.2 in
    omega arith

pub returns : goal.returns
returns c =
    let x = c.args in
    let run = c.run_good-writes in
    let run2 = c.run_good-others in
    let mine = run.new.out in
    let theirs = run2.new.out in
    let put = put_both run.ensures run2.ensures
    (take_all (length mine - x.first.trailer.records) (drop x.first.trailer.records mine) (simp length-drop (omega arith)))
    (take_all (length theirs - x.second.trailer.records) (drop x.second.trailer.records theirs) (simp length-drop (omega arith)))
    c.difference-parting.ensures c.put_line-next.ensures.0 c.put_parting.ensures.0 in
    let line = c.put_line-next.ensures.1 in
    let last = c.put_parting.ensures.1 in
    (put, omega arith)
