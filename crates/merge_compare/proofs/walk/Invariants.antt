use Rattle.run_lists.specs.EventList.{record_at}
use Rattle.merge_compare.specs.Walk.{Walking}
use Rattle.merge_compare.proofs.walk.Given as goal

abbrev pub invariant-loop-j : goal.invariant-loop-j
invariant-loop-j l = Walking l.first.trailer.nodes (record_at l.first.bytes.now) (record_at l.second.bytes.now) l.first.trailer.records l.second.trailer.records l.places l.j
