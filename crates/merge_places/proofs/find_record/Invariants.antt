use Prim.Native.Nat.{◌-◌}
use Rattle.run_lists.specs.EventList.{record_at}
use Rattle.run_lists.specs.Reads.{event_of}
use Rattle.merge_verdict.specs.Verdict.{same_event}
use Rattle.any_search.specs.Seek.{Seeking}
use Rattle.merge_places.proofs.find_record.Given as goal

abbrev pub invariant-loop-i : goal.invariant-loop-i
invariant-loop-i l = Seeking (λ a. same_event (record_at l.first.bytes.now a) (event_of l.event)) l.start l.first.trailer.records l.i
