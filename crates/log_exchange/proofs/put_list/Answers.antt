use Rattle.std.specs.Prelude.{◌≡◌, List, ℕ, length}
use Rattle.std.proofs.Math.Path.{subst}
use Rattle.std.proofs.Common.{arith}
use Rattle.any_text.specs.Put.{Put}
use Rattle.log_exchange.specs.Filling.{step_at, stepped-none, stepped-more, stepped-all, list_put}
use Rattle.log_exchange.proofs.put_list.Goals as goal

-- What was put, by another name.
put_as : {l w v m : List ℕ} {at r : ℕ} → w ≡ v → Put l at w m r → Put l at v m r
put_as {l} {m = m} {at} {r} e p = subst (λ (x : List ℕ). Put l at x m r) e p

pub loop-i-init : goal.loop-i-init
loop-i-init c = stepped-none _ _ _

pub loop-i-preserved : goal.loop-i-preserved
loop-i-preserved c = stepped-more c.loop-i.invariant c.loop-i-test.true (rw (← c.source.ensures) c.put_word-at.ensures)

pub returns : goal.returns
returns c =
    let m = c.args.merge.now in
    let x = c.args.exchange in
    let records = stepped-all c.loop-i.invariant c.loop-i-test.false in
    let put = put_as c.trailer_bytes-trailer.ensures c.put_word.ensures in (
      list_put m.nodes (length m.records.now) (step_at m.records.now x.up x.x x.y) records.0 put,
      let y = records.1 in let z = put.place in omega arith,
    )
