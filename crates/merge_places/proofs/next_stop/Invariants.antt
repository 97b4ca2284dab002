use Prim.Native.Nat.{◌-◌}
use lib.ListN.{length}
use Rattle.merge_places.specs.Row.{is_stop}
use Rattle.any_search.specs.Seek.{Seeking}
use Rattle.merge_places.proofs.next_stop.Given as goal

abbrev pub invariant-loop-i : goal.invariant-loop-i
invariant-loop-i l = Seeking (is_stop l.letters l.table l.letter l.places) l.start (length l.places) l.i
