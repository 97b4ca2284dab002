use Rattle.std.proofs.Common.{cond, ltb, refl, sym, ap, ◌∙◌, arith}
use Rattle.std.proofs.lemmas.Bool.{lt-leb}
use Rattle.std.proofs.lemmas.List.{get_or_default}
use Rattle.rules.specs.Limits.{queue_length}
use Rattle.rules.specs.Range.{each}
use Rattle.step_range_queues.specs.Tests.{place, places_test}
use Rattle.step_range_queues.specs.Each.{each_more, places-all, places-not}
use Rattle.step_range_queues.proofs.queues.queue_fits.Goals as goal

pub returns-then-CAPACITY-q : goal.returns-then-CAPACITY-q
unfolding places_test
returns-then-CAPACITY-q g c = λ past. simp (lt-leb c.args.q.len queue_length (let k = c.CAPACITY.ensures in omega arith))

pub loop-i-init : goal.loop-i-init
unfolding each
loop-i-init g c = λ past. refl

pub returns-then-not-fits : goal.returns-then-not-fits
unfolding places_test
returns-then-not-fits g c =
    let q = c.args.q in
    let used = g.T.Fits.in_use c.args.count in
    let k = c.CAPACITY.ensures in
    λ past. places-not (place used g.T.Fits.behind past q.items q.len) 8 q.len (omega arith) c.loop-i.i (omega arith) (
    ap (λ (x : g.row.T.Denot). cond (ltb c.loop-i.i q.len) (used x) (g.T.Fits.behind x)) (get_or_default q.items c.loop-i.i past c.x-item.result (omega arith))
    ∙ sym c.fits.ensures ∙ c.if-not-fits.true
    )

pub loop-i-preserved : goal.loop-i-preserved
loop-i-preserved g c =
    let q = c.args.q in
    let used = g.T.Fits.in_use c.args.count in
    λ past. each_more (place used g.T.Fits.behind past q.items q.len) c.loop-i.i (c.loop-i.invariant past) (
    ap (λ (x : g.row.T.Denot). cond (ltb c.loop-i.i q.len) (used x) (g.T.Fits.behind x)) (get_or_default q.items c.loop-i.i past c.x-item.result (omega arith))
    ∙ sym c.fits.ensures ∙ c.if-not-fits.false
    )

pub returns : goal.returns
unfolding places_test
returns g c =
    let q = c.args.q in
    let k = c.CAPACITY.ensures in
    λ past. places-all (place (g.T.Fits.in_use c.args.count) g.T.Fits.behind past q.items q.len) 8 q.len (omega arith) c.loop-i.i (omega arith) (c.loop-i.invariant past)
