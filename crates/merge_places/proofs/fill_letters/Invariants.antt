use Prim.Native.Nat.{◌-◌}
use Rattle.merge_places.specs.Filling.{Lettered}
use Rattle.merge_places.proofs.fill_letters.Given as goal

abbrev pub invariant-loop-i : goal.invariant-loop-i
invariant-loop-i l = Lettered l.second.bytes.now l.letters l.i
