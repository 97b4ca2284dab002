use Prim.Native.Nat.{◌-◌}
use lib.ListN.{length}
use Rattle.run_lists.specs.Reads.{event_of}
use Rattle.merge_places.specs.Row.{is_there}
use Rattle.any_search.specs.Seek.{Seeking}
use Rattle.merge_places.proofs.find_left.Given as goal

abbrev pub invariant-loop-i : goal.invariant-loop-i
invariant-loop-i l = Seeking (is_there l.second.bytes.now (event_of l.event) l.places) l.start (length l.places) l.i
