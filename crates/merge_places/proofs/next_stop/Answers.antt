use Rattle.std.proofs.Common.{ap, not, get_or, eq-eqb, ne_eqb, arith}
use Rattle.any_search.specs.Seek.{seek-more, seek-hits}
use Rattle.merge_places.proofs.next_stop.Goals as goal

pub bounds-letters-place : goal.bounds-letters-place
bounds-letters-place c = let p = c.requires.2 in p.inside c.loop-i.i (let z = p.size in omega arith)

pub overflow_add-row : goal.overflow_add-row
overflow_add-row c = omega (arith, c.type_inv.letters (get_or c.args.places.now c.loop-i.i 0))

pub bounds-table-row : goal.bounds-table-row
bounds-table-row c = omega (arith, c.type_inv.letters (get_or c.args.places.now c.loop-i.i 0))

pub returns-then-table-row-ne1 : goal.returns-then-table-row-ne1
returns-then-table-row-ne1 c = (omega arith, seek-hits c.loop-i.invariant (ap not (ne_eqb _ _ c.if-table-row-ne1.true)))

pub loop-i-preserved : goal.loop-i-preserved
loop-i-preserved c = seek-more c.loop-i.invariant (omega arith) (ap not (eq-eqb _ _ c.if-table-row-ne1.false))
