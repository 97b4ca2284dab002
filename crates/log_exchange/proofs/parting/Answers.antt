use Rattle.std.specs.Prelude.{length, drop, ◌-◌, ℕ}
use Rattle.std.proofs.Common.{arith, take_all, length-drop}
use Rattle.std.proofs.Math.ListN.{length-replicate}
use Rattle.log_exchange.specs.Moves.{moved_inside}
use Rattle.log_exchange.specs.Ran.{parting-said}
use Rattle.log_exchange.proofs.parting.Goals as goal

pub run_moved-others-requires : goal.run_moved-others-requires
run_moved-others-requires c =
    let p = c.requires in
    let x = c.args.exchange in
    let n = length c.args.merge.now.records.now in
    (p.0, p.1, p.2, (λ i h. moved_inside x.up x.x x.y i n p.3 p.4 h), (let r = length-replicate {A = ℕ} 36858 0 in let q = p.0 in omega arith))

pub returns : goal.returns
returns c =
    let p = c.requires in
    let m = c.args.merge.now in
    let x = c.args.exchange in
    let n = length m.records.now in
    let theirs = c.run_moved-others.new.out in
    parting-said m.nodes m.records.now p.1 p.2 p.0 p.5 x.up x.x x.y p.3 p.4 p.6 c.run_moved-others.ensures
    (take_all (length c.args.mine.now - n) (drop n c.args.mine.now) (simp length-drop (omega arith))) (take_all (36858 - n) (drop n theirs) (simp length-drop (omega arith)))
    c.difference.ensures
