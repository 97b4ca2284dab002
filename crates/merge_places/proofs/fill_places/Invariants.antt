use Rattle.any_search.specs.Holds.{Holds}
use Rattle.merge_places.proofs.fill_places.Given as goal

abbrev pub invariant-loop-i : goal.invariant-loop-i
invariant-loop-i l = Holds (λ q. q) l.places l.i
