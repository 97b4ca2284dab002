use Rattle.std.proofs.Common.{ℕ, ◌≡◌, ◌<◌, List, take, get_or, eq-eqb, ne_eqb, refl, sym, arith, length-take-le, get_or-take}
use Rattle.rules.specs.Range.{each}
use Rattle.step_parts.specs.declared.ElectionId.{ElectionId}
use Rattle.step_range_queues.specs.Each.{each_more, each-not, each_all}
use Rattle.step_range.specs.Tests.{id_test, id_place, ids_test}
use Rattle.step_range.proofs.streams.ids_fit.Goals as goal
use Rattle.step_range.proofs.streams.ids_fit.Goals.{else-id-ne0-via-then-id-ne0+else-id_place-i, else-id-ne0-via-else-id-ne0}

pub loop-i-init : goal.loop-i-init
unfolding each
loop-i-init c = refl

-- what is read of the ids in use
in_use : (ids : List ElectionId) (count i : ℕ) → i < count → get_or (take count ids) i (record { 0 = 0 }) ≡ get_or ids i (record { 0 = 0 })
in_use ids count i h = get_or-take count ids i (record { 0 = 0 }) h

pub loop-i-preserved : goal.loop-i-preserved
unfolding id_test
loop-i-preserved c =
    let a = c.args in
    let n = length-take-le a.count a.claims.ids (omega arith) in
    each_more (id_place a.count a.claims) c.loop-i.i c.loop-i.invariant (
    rw (← in_use a.claims.ids a.count c.loop-i.i (omega arith)) (elim c.else-id-ne0.branch [
      | else-id-ne0-via-then-id-ne0+else-id_place-i w ↦ simp (ne_eqb _ _ w.if-id-ne0.true, ← w.id_place.ensures, eq-eqb _ _ w.if-id_place-i.false)
      | else-id-ne0-via-else-id-ne0 w ↦ simp (eq-eqb _ _ w.if-id-ne0.false)
    ])
    )

pub returns-then-id_place-i : goal.returns-then-id_place-i
unfolding ids_test id_test
returns-then-id_place-i c =
    let a = c.args in
    let n = length-take-le a.count a.claims.ids (omega arith) in
    sym (each-not (id_place a.count a.claims) a.count c.loop-i.i (omega arith) (
    rw (← in_use a.claims.ids a.count c.loop-i.i (omega arith)) (simp (ne_eqb _ _ c.if-id-ne0.true, ← c.id_place.ensures, ne_eqb _ _ c.if-id_place-i.true))
    ))

pub returns : goal.returns
unfolding ids_test
returns c =
    let a = c.args in
    let n = length-take-le a.count a.claims.ids (omega arith) in
    each_all (id_place a.count a.claims) a.count c.loop-i.i (omega arith) c.loop-i.invariant
